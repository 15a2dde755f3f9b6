-- Isolation of two plugins, and demand 3 of each over what it may read with its other half: three instances of one theorem (`kept`),
-- for relations that are views of what is seen. Assumes nothing.
use Prim.Native.Nat.{ℕ, ◌<◌}
use mathlib.Core.Path.{◌≡◌, sym, ap, subst, ◌∙◌}
use mathlib.Core.Bool.{Bool}
use mathlib.Core.List.{List}
use lib.ListN.{length, get_or}
use lib.Seq.{ext_get_or}
use Rattle.memory.specs.Taints.{tainted, byte_at}
use Rattle.plan.specs.declared.ranges.Ranges.{Ranges}
use Rattle.plan.specs.declared.ranges.Reach.TheVariants.{Ranged}
use Rattle.machine.specs.Machine.{Machine}
use Rattle.machine.specs.Real.{Real}
use Rattle.machine.proofs.Reals.{Below}
use Rattle.secrecy.specs.route.Alike.{View, by_taint, exactly, Copied, Alike}
use Rattle.secrecy.proofs.Numbers.{same_number}
use Rattle.secrecy.proofs.Halves.{secret, opposed, exact}
use Rattle.execution.specs.Run.{plain_window, bad_turn, turn_of}
use Rattle.execution.proofs.Secrecy.{Shaped, run_shown, run_logs, past_end}
use Rattle.turns.specs.Sight.{Sees}
use Rattle.turns.specs.Turns.{World, own_machine, Turn, play_of, SameOrder, ShowsPlay}
use Rattle.turns.specs.Views.{Unchanged, RelatedOver, SameOver, FilledOver}
use Rattle.turns.proofs.Ranges.{ranges_safe}
use Rattle.turns.proofs.Plays.{over, Between, play_shows}

-- ---- one theorem

module _ {view : View} (copied : Copied view) {R : Machine → Machine → Type 0} (origin : ℕ) (r : Ranges) (shape : Shaped (Sees origin r) view R)
    (unseen : (m n p q : Machine) → R m n → Between (Sees origin r) m p → Between (Sees origin r) n q → R (over m p) (over n q)) where
  bad_same : (m n : Machine) → R m n → bad_turn origin r m ≡ bad_turn origin r n
  bad_same m n h = rw (shape.memories m n h, shape.taints m n h, shape.pc m n h)

  kept : {ts us : List Turn} → SameOrder ts us → (w v : World) → R (own_machine w) (own_machine v) → ShowsPlay R (play_of (turn_of origin) r ts w) (play_of (turn_of origin) r us v)
  kept =
      play_shows R origin r
      (λ ws m n l k h room. run_shown copied shape (plain_window origin) (Ranged r) (ranges_safe origin r) (bad_turn origin r) bad_same ws m n h l k room)
      (λ ws m n l h. run_logs copied shape (plain_window origin) (Ranged r) (ranges_safe origin r) (bad_turn origin r) bad_same ws m n h l)
      unseen

-- a machine that there is, on memory that another's turn has left
pub real_over : (m p : Machine) → Real m → Below 256 p.memory → Real (over m p)
real_over m p h small = record { registers = h.registers; marks = h.marks; values = h.values; marked = h.marked; bytes = small }

-- ---- isolation

module _ {sees : ℕ → Type 0} where
  to_exact : (m n : Machine) → length m.memory ≡ length m.taints.bytes → Unchanged sees m n → Alike sees exactly m n
  to_exact m n long h =
      record {
        pc = h.pc;
        monitor = h.monitor;
        registers =
            record {
              taints = h.other.marks ∙ sym h.real.marks;
              left = h.real.registers ∙ sym h.real.marks;
              right = h.other.registers ∙ sym h.real.marks;
              each = λ slot s i. (ap (λ (u : List ℕ). byte_at i (get_or u slot 0)) h.marks, ap (λ (v : List ℕ). byte_at i (get_or v slot 0)) h.values);
            };
        bytes = record { taints = h.rooms; left = long; right = h.memories ∙ long; each = λ i s. (h.taints i s, h.bytes i s) };
      }

  from_exact : (m n : Machine) → Real m → Real n → Alike sees exactly m n → Unchanged sees m n
  from_exact m n real other h =
      record {
        real = real;
        other = other;
        values = ext_get_or 0 m.values n.values (real.registers ∙ sym other.registers) (λ slot l. same_number _ _ (λ i. (h.registers.each slot tt i).1));
        marks = ext_get_or 0 m.taints.registers n.taints.registers (real.marks ∙ sym other.marks) (λ slot l. same_number _ _ (λ i. (h.registers.each slot tt i).0));
        pc = h.pc;
        monitor = h.monitor;
        memories = h.bytes.right ∙ sym h.bytes.left;
        rooms = h.bytes.taints;
        bytes = λ i s. (h.bytes.each i s).1;
        taints = λ i s. (h.bytes.each i s).0;
      }

  unchanged_shape : Shaped sees exactly (Unchanged sees)
  unchanged_shape =
      record {
        real = λ m n h. h.real;
        other = λ m n h. h.other;
        pc = λ m n h. h.pc;
        memories = λ m n h. h.memories;
        taints = λ m n h. h.rooms;
        to = to_exact;
        from = from_exact;
      }

  unchanged_over : (m n p q : Machine) → Unchanged sees m n → Between sees m p → Between sees n q → Unchanged sees (over m p) (over n q)
  unchanged_over m n p q h f g =
      record {
        real = real_over m p h.real (f.small h.real.bytes);
        other = real_over n q h.other (g.small h.other.bytes);
        values = h.values;
        marks = h.marks;
        pc = h.pc;
        monitor = h.monitor;
        memories = g.framed.size ∙ h.memories ∙ sym f.framed.size;
        rooms = g.framed.room ∙ h.rooms ∙ sym f.framed.room;
        bytes = λ i s. f.framed.bytes i s ∙ h.bytes i s ∙ sym (g.framed.bytes i s);
        taints = λ i s. f.framed.taints i s ∙ h.taints i s ∙ sym (g.framed.taints i s);
      }

-- whatever the other's words, registers, marks, program counter, monitor, trace, statuses, private bytes and their marks: our answers,
-- traces, statuses, registers, marks, monitor and private bytes are the same after each of our turns
pub isolation : (origin : ℕ) (r : Ranges) {ts us : List Turn} → SameOrder ts us → (w v : World) → Unchanged (Sees origin r) (own_machine w) (own_machine v)
    → ShowsPlay (Unchanged (Sees origin r)) (play_of (turn_of origin) r ts w) (play_of (turn_of origin) r us v)
isolation origin r = kept exact origin r unchanged_shape unchanged_over

-- ---- demand 3 of each plugin, and its other half

-- bytes that are as they were are related as they were
byte_over : (related : Bool → ℕ → ℕ → Type 0) {k k' a a' b b' : ℕ} → k' ≡ k → a' ≡ a → b' ≡ b → related (tainted k) a b → related (tainted k') a' b'
byte_over related e f g h = rw (e, f, g) h

module _ {related : Bool → ℕ → ℕ → Type 0} (copied : Copied (by_taint related)) {sees : ℕ → Type 0} where
  to_taint : (m n : Machine) → length m.memory ≡ length m.taints.bytes → RelatedOver sees related m n → Alike sees (by_taint related) m n
  to_taint m n long h =
      record {
        pc = h.pc;
        monitor = h.monitor;
        registers = record { taints = h.other.marks ∙ sym h.real.marks; left = h.real.registers ∙ sym h.real.marks; right = h.other.registers ∙ sym h.real.marks; each = λ slot s i. (h.marks slot i, h.registers slot i) };
        bytes =
            record {
              taints = h.rooms;
              left = long;
              right = h.memories ∙ long;
              each = λ i s. (h.taints i s, past_end copied m.taints.bytes m.memory n.memory long (h.memories ∙ long) i (h.bytes i s));
            };
      }

  from_taint : (m n : Machine) → Real m → Real n → Alike sees (by_taint related) m n → RelatedOver sees related m n
  from_taint m n real other h =
      record {
        real = real;
        other = other;
        pc = h.pc;
        monitor = h.monitor;
        marks = λ slot i. (h.registers.each slot tt i).0;
        registers = λ slot i. (h.registers.each slot tt i).1;
        memories = h.bytes.right ∙ sym h.bytes.left;
        rooms = h.bytes.taints;
        taints = λ i s. (h.bytes.each i s).0;
        bytes = λ i s l. (h.bytes.each i s).1;
      }

  related_shape : Shaped sees (by_taint related) (RelatedOver sees related)
  related_shape =
      record {
        real = λ m n h. h.real;
        other = λ m n h. h.other;
        pc = λ m n h. h.pc;
        memories = λ m n h. h.memories;
        taints = λ m n h. h.rooms;
        to = to_taint;
        from = from_taint;
      }

  related_over : (m n p q : Machine) → RelatedOver sees related m n → Between sees m p → Between sees n q → RelatedOver sees related (over m p) (over n q)
  related_over m n p q h f g =
      record {
        real = real_over m p h.real (f.small h.real.bytes);
        other = real_over n q h.other (g.small h.other.bytes);
        pc = h.pc;
        monitor = h.monitor;
        marks = h.marks;
        registers = h.registers;
        memories = g.framed.size ∙ h.memories ∙ sym f.framed.size;
        rooms = g.framed.room ∙ h.rooms ∙ sym f.framed.room;
        taints = λ i s. f.framed.taints i s ∙ h.taints i s ∙ sym (g.framed.taints i s);
        bytes = λ i s l. byte_over related (f.framed.taints i s) (f.framed.bytes i s) (g.framed.bytes i s) (h.bytes i s (subst (λ (k : ℕ). i < k) f.framed.room l));
      }

-- two sequences with the same words and room in our turns, from equal untainted registers and untainted bytes of our own and of the
-- shared range: all that 01 compares at the end is the same after each of our turns, over what we may read
pub demand_3_each : (origin : ℕ) (r : Ranges) {ts us : List Turn} → SameOrder ts us → (w v : World) → SameOver (Sees origin r) (own_machine w) (own_machine v)
    → ShowsPlay (SameOver (Sees origin r)) (play_of (turn_of origin) r ts w) (play_of (turn_of origin) r us v)
demand_3_each origin r = kept secret origin r (related_shape secret) (related_over secret)

pub other_half_each : (origin : ℕ) (r : Ranges) {ts us : List Turn} → SameOrder ts us → (w v : World) → FilledOver (Sees origin r) (own_machine w) (own_machine v)
    → ShowsPlay (FilledOver (Sees origin r)) (play_of (turn_of origin) r ts w) (play_of (turn_of origin) r us v)
other_half_each origin r = kept opposed origin r (related_shape opposed) (related_over opposed)
