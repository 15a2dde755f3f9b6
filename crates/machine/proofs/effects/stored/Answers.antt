-- `machine::effects::stored` meets its contract. Assumes nothing.
use Rattle.std.proofs.Common.{◌≡◌, true, false, ◌++◌, map, sym, ◌∙◌}
use Rattle.vectors.specs.File.{wide, vector_slot}
use Rattle.vectors.proofs.Slots.{vector_low}
use Rattle.machine.specs.Monitor.{fails}
use Rattle.machine.proofs.Writing.{nothing_stored, general_bytes, general_taints, vector_bytes, vector_taints}
use Rattle.machine.proofs.effects.stored.Goals as goal

pub returns-then-fails : goal.returns-then-fails
returns-then-fails c =
    let a = c.args in
    nothing_stored a.t a.status a.at (a.files.now.value.now ++ map wide a.files.now.vectors.now) (a.files.now.tainted.now ++ map wide a.files.now.vector_taint.now) a.memory.now a.taint.now (sym c.fails.ensures ∙ c.if-fails.true)

pub overflow_sub-t : goal.overflow_sub-t
overflow_sub-t c = (vector_low c.args.t.target (sym c.is_vector.ensures ∙ c.if-is_vector.true)).0

pub returns-then-is_vector : goal.returns-then-is_vector
returns-then-is_vector c =
    let first = c.stored_vector.ensures in
    let second = c.stored_vector-then-is_vector.ensures in
    let a = c.args in
    let passes : fails a.t a.status ≡ false = sym c.fails.ensures ∙ c.if-fails.false in
    let vector : vector_slot a.t.target ≡ true = sym c.is_vector.ensures ∙ c.if-is_vector.true in
    let low = (vector_low a.t.target vector).0 in
    let high = (c.requires.0.vector vector).second in
    rw passes (
      (rw first.0 at second.0) ∙ vector_bytes a.t a.at a.files.now.value.now a.files.now.tainted.now a.files.now.vectors.now a.files.now.vector_taint.now a.memory.now a.taint.now a.files.now.full low high,
      (rw first.1 at second.1) ∙ vector_taints a.t a.at a.files.now.value.now a.files.now.tainted.now a.files.now.vectors.now a.files.now.vector_taint.now a.memory.now a.taint.now a.files.now.full low high,
    )

pub returns : goal.returns
returns c =
    let first = c.stored_one.ensures in
    let second = c.stored_one-2.ensures in
    let a = c.args in
    let passes : fails a.t a.status ≡ false = sym c.fails.ensures ∙ c.if-fails.false in
    let general : vector_slot a.t.target ≡ false = sym c.is_vector.ensures ∙ c.if-is_vector.false in
    let also = (c.requires.0.general general).1 in
    rw passes (
      (rw first.0 at second.0) ∙ general_bytes a.t a.at a.files.now.value.now a.files.now.tainted.now a.files.now.vectors.now a.files.now.vector_taint.now a.memory.now a.taint.now a.files.now.full general also,
      (rw first.1 at second.1) ∙ general_taints a.t a.at a.files.now.value.now a.files.now.tainted.now a.files.now.vectors.now a.files.now.vector_taint.now a.memory.now a.taint.now a.files.now.full general also,
    )
