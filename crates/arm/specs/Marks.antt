-- 01's rule of marks, "Memory, marks and the trace", with 02's CR 3 and CR 13, for the registers that a word names and the bytes that its
-- page touches. A mark is a byte, and any but 0 marks. A register's marks are a number, with a byte for each byte of its value.
use Rattle.std.specs.Prelude.{ℕ, zero, suc, ◌+◌, ◌-◌, ◌*◌, ◌/◌, ◌%◌, Bool, false, not, ◌||◌, ◌&&◌, List, eqb, get_or, set}
use Rattle.bits.specs.Choice.{pick}
use Rattle.bits.specs.Fields.{field}
use Rattle.machine.specs.Rule.{Taints}
use Rattle.arm.specs.Pseudocode.{first_vector}
use Rattle.arm.specs.Pages.{Page}

abbrev pub marks : ℕ → Bool
marks b = not (eqb b 0)

-- "a marked byte" in the low n bytes of a register
unfoldable pub any_marked : ℕ → ℕ → Bool
any_marked zero x = false
any_marked (suc n) x = marks (x % 256) || any_marked n (x / 256)

-- a mark as it is copied: "exactly 0 or 1"
abbrev pub copied : ℕ → ℕ
copied b = pick (marks b) 1 0

-- the marks of Rt, Rt2, Rm or Rs: 31 is the zero register, which has none
abbrev pub marks_at : ℕ → List ℕ → ℕ
marks_at n u = pick (eqb n 31) 0 (get_or u n 0)

abbrev pub set_marks : ℕ → ℕ → List ℕ → List ℕ
set_marks n x u = pick (eqb n 31) u (set u n x)

-- those of Rt and Rt2 of a page that moves vector registers: V0 to V31 stand behind SP, and each has marks
abbrev pub moved_marks : Bool → ℕ → List ℕ → ℕ
moved_marks vector n u = pick vector (get_or u (first_vector + n) 0) (marks_at n u)

abbrev pub set_moved : Bool → ℕ → ℕ → List ℕ → List ℕ
set_moved vector n x u = pick vector (set u (first_vector + n) x) (set_marks n x u)

-- the bytes in "the used part of the index (its low four for uxtw and sxtw)": options 010 and 110
abbrev pub used_bytes : ℕ → ℕ
used_bytes option = pick (eqb option 0b010 || eqb option 0b110) 4 8

-- as many copies of one mark
unfoldable pub repeated : ℕ → ℕ → ℕ
repeated zero b = 0
repeated (suc c) b = b + repeated c b * 256

-- "A load copies marks byte for byte; sign copies take the mark of the top byte loaded": n bytes, then c copies of the mark before
unfoldable pub load_marks : ℕ → ℕ → ℕ → ℕ → ℕ → List ℕ → ℕ
load_marks origin address zero c last k = repeated c last
load_marks origin address (suc n) c last k =
    let b = copied (get_or k (address - origin) 0) in
    b + load_marks origin (address + 1) n c b k * 256

-- "a store copies them back"
unfoldable pub store_marks : ℕ → ℕ → ℕ → ℕ → List ℕ → List ℕ
store_marks origin address zero x k = k
store_marks origin address (suc n) x k = store_marks origin (address + 1) n (x / 256) (set k (address - origin) (copied (x % 256)))

-- writeback leaves the base unmarked. A pair has half the bytes for each register, Rt first; what is loaded is extended with its
-- sign to so many bytes. A store-exclusive unmarks Rs, and a status of 1 "changes no byte's mark"
unfoldable pub marks_of : Page → Bool → ℕ → ℕ → ℕ → ℕ → ℕ → Taints → Taints
marks_of page store status origin word address size p =
    let t = field 4 0 word in
    let t2 = field 14 10 word in
    let each = pick page.paired (size / 2) size in
    let based = pick page.wback (set p.registers (field 9 5 word) 0) p.registers in
    let u = pick page.status (set_marks (field 20 16 word) 0 based) based in
    let copies = page.extent - each in
    let loaded = set_moved page.vector t (load_marks origin address each copies 0 p.bytes) u in
    let stored = store_marks origin address each (moved_marks page.vector t p.registers) p.bytes in
    record {
      registers = pick store u (pick page.paired (set_moved page.vector t2 (load_marks origin (address + each) each copies 0 p.bytes) loaded) loaded);
      bytes = pick (store && eqb status 0) (pick page.paired (store_marks origin (address + each) each (moved_marks page.vector t2 p.registers) stored) stored) p.bytes;
    }
