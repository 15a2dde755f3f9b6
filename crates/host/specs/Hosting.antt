-- A run for a host: the run of Arm's steps, with its answer by the number.
use Rattle.std.specs.Prelude.{ℕ, List}
use Rattle.instruction.specs.Answers.{answer_number}
use Rattle.plan.specs.declared.window.Window.{Window}
use Rattle.machine.specs.Machine.{Machine, machine_of}
use Rattle.execution.specs.Walk.{Log, log, Result}
use Rattle.execution.specs.declared.Ran.{Ran}
use Rattle.arm.specs.Choices.{arm_run}
use Rattle.host.specs.declared.RunReply.{RunReply}

-- all that a run returns and leaves: the record, the vector registers and their marks, memory and taint bytes are a machine
pub record Hosted : Type 0 where
  pub machine : Machine
  pub log : Log
  pub steps : ℕ
  pub answer : ℕ
  pub code : ℕ
  pub address : ℕ

abbrev pub hosted : RunReply → List (List ℕ) → List (List ℕ) → List ℕ → List ℕ → List ℕ → List ℕ → Hosted
hosted r vectors vector_taint memory taint trace statuses =
    record {
      machine = machine_of r.session vectors vector_taint memory taint;
      log = log trace statuses;
      steps = r.steps;
      answer = r.answer;
      code = r.code;
      address = r.address;
    }

-- what a run returns, as it crosses
abbrev pub run_reply : Ran → RunReply
run_reply r = record { session = r.state; steps = r.steps; answer = answer_number r.answer; code = r.shown.code; address = r.shown.address }

abbrev pub hosted_of : Result Machine → Hosted
hosted_of t =
    record {
      machine = t.machine;
      log = t.log;
      steps = t.steps;
      answer = answer_number t.answer;
      code = t.shown.code;
      address = t.shown.address;
    }

abbrev pub host_run : Window → List ℕ → Machine → Log → Hosted
host_run w words m l = hosted_of (arm_run w words m l)
