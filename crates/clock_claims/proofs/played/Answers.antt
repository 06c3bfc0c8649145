-- `played` meets its contract: the invariant is that the state so far is the one that the calls so far leave.
use borrow.Author.Rules.{rules}
use Prim.Native.Nat.{ℕ, ◌+◌}
use mathlib.Core.Path.{◌≡◌, refl, sym, ap, subst, ◌∙◌}
use mathlib.Core.List.{List, [], ◌∷◌, ◌++◌, map, map-append}
use native.Mathlib.Numerals.{add-one}
use lib.ListN.{get_or, take}
use lib.Seq.{take-suc}
use Rattle.std.proofs.lemmas.List.{take_all}
use Rattle.clock_claims.specs.History.{Call}
use Rattle.clock_claims.specs.Witnesses.{call_of, MadeBy}
use Rattle.clock_claims.proofs.Witnesses.{made_more, played_well}
use Rattle.clock_claims.proofs.played.Goals as goal

pub loop-number-init : goal.loop-number-init
loop-number-init c = ([], (refl, sym c.none-state.ensures))

pub loop-number-preserved : goal.loop-number-preserved
loop-number-preserved c =
    let a = c.args in
    let l = c.loop-number in
    let numbers = a.numbers.now in
    let call = call_of a.sheet a.other_sheet a.status a.other_status in
    let number = get_or numbers l.number-index 0 in
    let one = c.called-state.ensures in
    let calls : map call (take (l.number-index + 1) numbers) ≡ map call (take l.number-index numbers) ++ (call number ∷ []) =
    rw (add-one, take-suc numbers l.number-index 0 c.loop-number-test.true) (map-append call (take l.number-index numbers) (number ∷ [])) in
    subst (λ (k : List Call). MadeBy k c.called-state.result) (sym calls)
    (made_more (map call (take l.number-index numbers)) l.state (call number) one.0 c.called-state.result l.invariant one.1)

pub returns : goal.returns
returns c =
    let a = c.args in
    let l = c.loop-number in
    let numbers = a.numbers.now in
    let call = call_of a.sheet a.other_sheet a.status a.other_status in
    let all : take l.number-index numbers ≡ numbers = take_all l.number-index numbers c.loop-number-test.false in
    played_well (map call numbers) l.state (subst (λ (k : List ℕ). MadeBy (map call k) l.state) all l.invariant)
