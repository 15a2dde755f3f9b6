-- `rescue::line::restore` meets its contract: a law of `Told` for each return, by where the tabs are. Assumes nothing.
use native.Mathlib.Omega.{arith}
use Rattle.rescue.proofs.Told.{no_tab, tab_in, one_tab, second_in, three_tabs, restores, restores_not}
use Rattle.rescue.proofs.line.restore.Goals as goal

pub returns-then-first-line : goal.returns-then-first-line
returns-then-first-line c = no_tab _ c.requires c.if-first-line.true

pub overflow_add-start : goal.overflow_add-start
overflow_add-start c = omega (arith, tab_in _ c.requires c.if-first-line.false)

pub find-second-requires : goal.find-second-requires
find-second-requires c = omega (arith, tab_in _ c.requires c.if-first-line.false)

pub returns-then-second-line : goal.returns-then-second-line
returns-then-second-line c =
    let other = c.requires in
    let first = tab_in _ other c.if-first-line.false in
    one_tab _ other first _ c.find-second.ensures.0 c.if-second-line.true

pub returns-then-find-line : goal.returns-then-find-line
returns-then-find-line c =
    let other = c.requires in
    let first = tab_in _ other c.if-first-line.false in
    let found = c.find-second.ensures in
    let second = second_in _ other first _ found.0 found.1 c.if-second-line.false in
    three_tabs _ other first _ found.0 second c.find.ensures.0 c.if-find-line.true

pub returns-in-Ok : goal.returns-in-Ok
returns-in-Ok c =
    let other = c.requires in
    let first = tab_in _ other c.if-first-line.false in
    let found = c.find-second.ensures in
    let second = second_in _ other first _ found.0 found.1 c.if-second-line.false in
    let third = c.find.ensures.0 in
    let last = c.if-find-line.false in
    restores _ other first _ found.0 second third last c.in-Ok.ensures

pub returns-in-Err : goal.returns-in-Err
returns-in-Err c =
    let other = c.requires in
    let first = tab_in _ other c.if-first-line.false in
    let found = c.find-second.ensures in
    let second = second_in _ other first _ found.0 found.1 c.if-second-line.false in
    let third = c.find.ensures.0 in
    let last = c.if-find-line.false in
    restores_not _ other first _ found.0 second third last _ c.in-Err.ensures
