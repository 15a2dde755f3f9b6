-- `session::milestarling_step` meets its contract: what the decision comes to shows what the machine's step does, `shows`, and that is
-- Arm's, `step_as_arm`. Assumes nothing.
use Rattle.std.proofs.Common.{◌≡◌, ℕ, ap, ◌∙◌}
use Rattle.plan.specs.declared.window.Window.{Window}
use Rattle.machine.specs.Machine.{Machine}
use Rattle.machine.specs.Real.{Real}
use Rattle.machine.specs.Step.{step_of, performed, leaves}
use Rattle.machine.specs.route.Writing.{Ended, ends}
use Rattle.machine.proofs.Writing.{shown_of, shows}
use Rattle.arm.specs.Choices.{arm_step}
use Rattle.arm.proofs.Arm.{step_as_arm}
use Rattle.session.specs.Lent.{lent_of}
use Rattle.session.proofs.milestarling_step.Goals as goal

-- what the machine's step comes to is what Arm's leaves and says
as_arm : (w : Window) (word : ℕ) (m : Machine) {e : Ended} → Real m → e ≡ ends (step_of w word) m → lent_of (shown_of e) ≡ lent_of (leaves (arm_step w word) m)
as_arm w word m real h = ap lent_of (shows m (step_of w word m) h ∙ ap (performed m) (step_as_arm w word m real))

pub returns-in-Err : goal.returns-in-Err
returns-in-Err c = rw (c.reply.ensures, c.no_code.ensures) (as_arm _ _ _ c.real.ensures c.in-Err.ensures)

pub returns-in-Ok : goal.returns-in-Ok
returns-in-Ok c = rw c.reply-in-Ok.ensures (as_arm _ _ _ c.real.ensures (c.settle.ensures _ _ ∙ c.in-Ok.ensures))
