-- `with` meets its contract: one row rewritten, and counted if it is new.
use borrow.Author.Rules.{rules}
use mathlib.Core.Path.{◌≡◌}
use lib.ListN.{length}
use Rattle.std.specs.Prelude.{unwrap_or}
use Rattle.numbers.proofs.Walk.{length-of_mapped}
use Rattle.sync_list.specs.Lists.{row_count, place_in}
use Rattle.sync_list.proofs.ListLaws.{added, full_kept, laid}
use Rattle.sync_list.proofs.list.SyncList.with.Goals as goal

pub returns-then-place-ge-ROWS : goal.returns-then-place-ge-ROWS
returns-then-place-ge-ROWS c =
    let a = c.args in
    let long : length a.self.now.rows ≡ row_count = search (rules, length-of_mapped) in
    let place : c.unwrap_or-place.result ≡ unwrap_or (place_in a.id a.self.now) a.self.now.count = rw c.place.ensures at c.unwrap_or-place.ensures in
    full_kept a.self.now a.id a.channel a.measurement long _ place c.if-place-ge-ROWS.true

pub returns : goal.returns
returns c =
    let a = c.args in
    let long : length a.self.now.rows ≡ row_count = search (rules, length-of_mapped) in
    let place : c.unwrap_or-place.result ≡ unwrap_or (place_in a.id a.self.now) a.self.now.count = rw c.place.ensures at c.unwrap_or-place.ensures in
    let row : c.with.result ≡ added a.self.now a.id a.channel a.measurement = rw c.row_of.ensures at c.with.ensures in
    rw (row, c.max.ensures) (laid a.self.now a.id a.channel a.measurement long _ place c.if-place-ge-ROWS.false)
