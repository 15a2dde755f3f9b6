-- Answer 1: 01, "Answer numbers". 01's r is readonly, and its marks are taints.
use Rattle.std.specs.Prelude.{ℕ, ◌+◌, ◌%◌, ◌^◌, Bool, true, not, ◌==◌, nat_lt}
use Rattle.bits.specs.Choice.{pick}
use Rattle.plan.specs.declared.window.Window.{Window}

unfoldable pub bad_window : Window → ℕ → ℕ → ℕ → Bool
bad_window w len taints pc =
    pick (nat_lt (2 ^ 64) (w.origin + len)) true
    (pick (nat_lt len w.readonly) true
    (pick (not (taints == len)) true
    (not (pc % 4 == 0))))
