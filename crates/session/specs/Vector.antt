-- One vector register with its marks, as a host reads it: 02, CR 12.
use Rattle.std.specs.Prelude.{ℕ, List}
use Rattle.vectors.specs.File.{halves_at}
use Rattle.session.specs.declared.VectorRegister.{VectorRegister}

abbrev pub vector_at : List (List ℕ) → List (List ℕ) → ℕ → VectorRegister
vector_at vectors vector_taint n =
    record {
      low = (halves_at vectors n).low;
      high = (halves_at vectors n).high;
      taint_low = (halves_at vector_taint n).low;
      taint_high = (halves_at vector_taint n).high;
    }
