-- The taint rule: 01, "Memory, marks and the trace", and 02, CR 13. The taints after an access at an index of memory, from the
-- taints before it and its status (02, CR 3), and from no value.
use Rattle.std.specs.Prelude.{ℕ, ◌+◌, ◌-◌, List, map, slice_index, slice_set}
use Rattle.std.proofs.lemmas.List.Edits.{sets}
use Rattle.bits.specs.Choice.{pick}
use Rattle.bits.specs.Bytes.{bytes_of}
use Rattle.memory.specs.Taints.{normal}
use Rattle.memory.specs.Sources.{loaded_taint}
use Rattle.access.specs.declared.transfer.Transfer.{Transfer}
use Rattle.access.specs.declared.Access.{Access}
use Rattle.access.specs.declared.Access.TheVariants.{Nothing, Moves}
use Rattle.access.specs.Accesses.{word_access}
use Rattle.machine.specs.Monitor.{made_of}
use Rattle.machine.specs.declared.Shown.{Shown}

-- 01's marks, by byte (02, CR 13): of X0 to X30, SP and the vector registers, a number with a byte for each byte of the value; of
-- memory, a byte for each
pub record Taints : Type 0 where
  pub registers : List ℕ
  pub bytes : List ℕ

-- ---- what an access moves, of values and of taints alike: registers u, and bytes k

-- into the registers, by what is read of n bytes at an index; a pair puts Rt first
abbrev pub loaded_in : (ℕ → ℕ → ℕ) → Transfer → ℕ → List ℕ → List ℕ
loaded_in read t at u = slice_set (slice_set u t.target (read at t.bytes)) t.second (read (at + t.bytes) t.more)

-- into the bytes, by the n bytes that are written of a register
abbrev pub stored_in : (ℕ → ℕ → List ℕ) → Transfer → ℕ → List ℕ → List ℕ → List ℕ
stored_in write t at u k = sets (sets k at (write t.bytes (slice_index u t.target))) (at + t.bytes) (write t.more (slice_index u t.second))

-- writeback leaves the base untainted, and a status its register: all bytes
abbrev pub based_taints : ℕ → List ℕ → List ℕ
based_taints written u = slice_set u written 0

-- "A load copies marks byte for byte; sign copies take the mark of the top byte loaded, cleared bytes none"
abbrev pub loaded_taints : Transfer → ℕ → List ℕ → List ℕ → List ℕ
loaded_taints t at u k = loaded_in (λ at n. loaded_taint at n t.extent k) t at u

-- "a store copies them back", each as 0 or 1
abbrev pub stored_taints : Transfer → ℕ → List ℕ → List ℕ → List ℕ
stored_taints t at u k = stored_in (λ n x. map normal (bytes_of n x)) t at u k

unfoldable pub move_rule : Transfer → ℕ → ℕ → Taints → Taints
move_rule t written at p =
    record {
      registers = pick t.store (based_taints written p.registers) (loaded_taints t at (based_taints written p.registers) p.bytes);
      bytes = pick t.store (stored_taints t at p.registers p.bytes) p.bytes;
    }

abbrev pub rule_of : Access → ℕ → ℕ → Taints → Taints
rule_of Nothing status at p = p
rule_of (Moves t a) status at p = move_rule (made_of t status) a.written at p

-- the rule for a word and what its step shows, in memory whose first byte has address origin
abbrev pub word_rule : ℕ → ℕ → Shown → Taints → Taints
word_rule origin w shown p = rule_of (word_access w) shown.status (shown.address - origin) p
