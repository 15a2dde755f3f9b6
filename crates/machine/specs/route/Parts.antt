-- A step of which the first tests are passed, under any admission: what the functions of the deciding half come to.
use Rattle.std.specs.Prelude.{ℕ, List}
use Rattle.access.specs.declared.transfer.Transfer.{Transfer}
use Rattle.access.specs.declared.addressing.Addressing.{Addressing}
use Rattle.access.specs.declared.Access.{Access}
use Rattle.access.specs.Accesses.{word_access}
use Rattle.plan.specs.Plans.{Plan, Refuse, Touch}
use Rattle.plan.specs.Refusals.{Refusal, first_of}
use Rattle.machine.specs.Machine.{Machine}
use Rattle.machine.specs.Refusals.{access_refusals, word_refusals}
use Rattle.machine.specs.Step.{Step, stopped, touch_of, perform_of}

-- 2, 3 and 4, then the access
unfoldable pub word_step : ℕ → (Transfer → ℕ → List Refusal) → ℕ → Machine → Step Machine
word_step origin admit word m = first_of stopped (perform_of origin (word_access word) m) (word_refusals admit word m)

-- the access
unfoldable pub access_step : ℕ → (Transfer → ℕ → List Refusal) → Access → Machine → Step Machine
access_step origin admit x m = first_of stopped (perform_of origin x m) (access_refusals admit x m)

-- what is planned
abbrev pub plan_step : ℕ → Transfer → Addressing → Machine → Plan → Step Machine
plan_step origin t a m (Refuse answer address) = stopped answer address
plan_step origin t a m (Touch address sum) = touch_of origin t a.written address sum m
