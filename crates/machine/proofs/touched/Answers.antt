-- `machine::touched` meets its contract. Each way out is one law of proofs/Writing.antt. Assumes nothing.
use Rattle.std.proofs.Common.{◌-◌, ◌∙◌}
use Rattle.machine.specs.Monitor.{made_of}
use Rattle.machine.specs.Step.{shown}
use Rattle.machine.specs.route.Writing.{state_of}
use Rattle.machine.proofs.Writing.{sets_none, load_made, monitor_kept, store_tells, load_tells}
use Rattle.machine.proofs.touched.Goals as goal

pub returns-then-t : goal.returns-then-t
returns-then-t c =
    let a = c.args in
    let s = a.start.now in
    let f = s.files in
    let status = c.status-status.result in
    rw (c.after_store.ensures, ← c.status-status.ensures, ← c.code.ensures, ← c.written_back.ensures, ← c.after.ensures)
    (store_tells (made_of a.t status) a.written (a.touch.address - s.window.origin) c.written_back.result c.after.result (shown c.code.result a.touch.address status) (state_of f.value.now f.tainted.now s.pc s.monitor) f.vectors.now f.vector_taint.now a.memory.now a.taint.now f.full c.requires.1 _ c.if-t.true
    (λ e.
    let none = sets_none a.t.exclusive a.written e in
    (c.after.ensures ∙ monitor_kept a.t a.touch.address s.monitor none.0, none.1))
    c.stored.ensures.0 c.stored.ensures.1)

pub returns : goal.returns
returns c =
    let a = c.args in
    let s = a.start.now in
    let f = s.files in
    let status = c.status-status.result in
    rw (c.after_load.ensures, ← c.status-status.ensures, ← c.code.ensures, ← c.written_back.ensures, ← c.after.ensures, load_made a.t status c.if-t.false)
    (load_tells a.t a.written (a.touch.address - s.window.origin) c.written_back.result c.after.result (shown c.code.result a.touch.address status) (state_of f.value.now f.tainted.now s.pc s.monitor) f.vectors.now f.vector_taint.now a.memory.now a.taint.now f.full c.requires.1 c.if-t.false c.requires.0)
