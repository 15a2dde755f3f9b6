-- The lent forms leave exactly what the forms by value return: whatever meets the contract of the one is what meets that
-- of the other, since a machine of a record and of two files that code holds determines them.
use Prim.Native.Nat.{ℕ}
use mathlib.Core.Path.{◌≡◌, ap, sym, ◌∙◌}
use mathlib.Core.List.{List, map}
use lib.ListN.{take, drop}
use lib.Seq.{take_at, drop_at}
use Rattle.registers.specs.declared.Registers.{Registers}
use Rattle.registers.specs.File.{set_at}
use Rattle.vectors.specs.File.{wide, files_after, taints_after}
use Rattle.vectors.proofs.Rows.{wide_same}
use Rattle.plan.specs.declared.window.Window.{Window}
use Rattle.machine.specs.Machine.{Machine, machine_of}
use Rattle.machine.specs.Step.{outcome, leaves}
use Rattle.machine.specs.declared.State.{State}
use Rattle.machine.specs.declared.Stepped.{Stepped}
use Rattle.arm.specs.Choices.{arm_step}
use Rattle.session.specs.Lent.{Lent, Holding, LeftAs, lent_outcome, lent_of, lent_step, with_register}
use Rattle.session.specs.declared.StepReply.{StepReply}

-- the record whose machine it is, and its vector registers and their marks as numbers
abbrev state_in : Machine → State
state_in m = record { registers = record { value = take 32 m.values; taint = take 32 m.taints.registers }; pc = m.pc; monitor = m.monitor }

-- of two machines that are the same, from what code holds
module _ {s t : State} {vs us vs' us' : List (List ℕ)} {m k m' k' : List ℕ} (left : Holding s vs us) (right : Holding t vs' us') (same : machine_of s vs us m k ≡ machine_of t vs' us' m' k') where
  back : (u : State) (x y : List (List ℕ)) → Holding u x y → (p q : List ℕ) → state_in (machine_of u x y p q) ≡ u
  back u x y h p q = rw (take_at u.registers.value (map wide x) 32 h.values, take_at u.registers.taint (map wide y) 32 h.taints)

  pub state_same : s ≡ t
  state_same = sym (back s vs us left m k) ∙ ap state_in same ∙ back t vs' us' right m' k'

  pub vectors_same : vs ≡ vs'
  vectors_same =
      wide_same vs vs' left.vectors_held right.vectors_held
      (sym (drop_at s.registers.value (map wide vs) 32 left.values) ∙ ap (λ (n : Machine). drop 32 n.values) same ∙ drop_at t.registers.value (map wide vs') 32 right.values)

  pub vector_taint_same : us ≡ us'
  vector_taint_same =
      wide_same us us' left.vector_taint_held right.vector_taint_held
      (sym (drop_at s.registers.taint (map wide us) 32 left.taints) ∙ ap (λ (n : Machine). drop 32 n.taints.registers) same ∙ drop_at t.registers.taint (map wide us') 32 right.taints)

pub step_exact : (w : Window) (word : ℕ) (before after : State) (vs us vs'' us'' : List (List ℕ)) (m k m' k' m'' k'' : List ℕ) (r : Stepped) (reply : StepReply)
    → Holding after vs'' us'' → Holding r.state (files_after r.vectors vs) (taints_after r.vectors us)
    → outcome r vs us m' k' ≡ leaves (arm_step w word) (machine_of before vs us m k)
    → lent_outcome after reply vs'' us'' m'' k'' ≡ lent_step w word before vs us m k
    → LeftAs after r vs us vs'' us'' m' k' m'' k'' reply
step_exact w word before after vs us vs'' us'' m k m' k' m'' k'' r reply left right by_value in_place =
    let xs = files_after r.vectors vs in
    let ys = taints_after r.vectors us in
    let same : lent_outcome after reply vs'' us'' m'' k'' ≡ lent_of (outcome r vs us m' k') = in_place ∙ sym (ap lent_of by_value) in
    let machines : machine_of after vs'' us'' m'' k'' ≡ machine_of r.state xs ys m' k' = ap (λ (l : Lent). l.machine) same in
    record {
      state = state_same left right machines;
      vectors = vectors_same left right machines;
      vector_taint = vector_taint_same left right machines;
      memory = ap (λ (n : Machine). n.memory) machines;
      taint = ap (λ (n : Machine). n.taints.bytes) machines;
      says = ap (λ (l : Lent). l.reply) same;
    }

pub register_exact : (n value marks : ℕ) (before after : State) (file : Registers) → file ≡ set_at before.registers n value marks
    → after ≡ with_register n value marks before → (after.registers ≡ file) × (after.pc ≡ before.pc) × (after.monitor ≡ before.monitor)
unfolding with_register
register_exact n value marks before after file by_value in_place =
    (ap (λ (s : State). s.registers) in_place ∙ sym by_value, ap (λ (s : State). s.pc) in_place, ap (λ (s : State). s.monitor) in_place)
