-- Two pieces meet the statement of one.
use Rattle.std.proofs.Common.{◌≡◌, refl, ℕ, ◌+◌, ◌-◌, Bool, true, false, ◌&&◌, List, [], ◌++◌, length, take, drop, Fits, sym, ap, ◌∙◌, arith, rules, length-append, length-drop}
use Rattle.std.specs.Prelude.{Ok, Err}
use mir.Syntax.{w64}
use lib.Dec.{eqb}
use lib.ListN.{take-append-drop}
use lib.Seq.{take_all}
use Rattle.wire_reader.specs.declared.listening.ListenRefusal.{ListenRefusal}
use Rattle.wire_reader.specs.declared.listening.ListenRefusal.TheVariants.{NotSound, MemoryTooShort}
use Rattle.wire_reader.specs.Decoder.{is_nothing}
use Rattle.wire_reader.specs.Listening.{Listening, told}
use Rattle.wire_reader.proofs.PieceLaws.{told_some, told_none}
use Rattle.reader_claims.proofs.Witnesses.{taken_at_most, first_says, both_say}
use Rattle.reader_claims.proofs.listen_in_two.Goals as goal

abbrev back : List ℕ → ℕ → List ℕ
back l n = take (length l - n) (drop n l)

-- the two pieces are the samples
whole : (l : List ℕ) (n : ℕ) → take n l ++ back l n ≡ l
whole l n =
    ap (λ (m : List ℕ). take n l ++ m) (take_all (length l - n) (drop n l) (omega (arith, length-drop n l)))
    ∙ take-append-drop n l

-- nothing was refused, and nothing told
abbrev none_told : Listening → Bool
none_told answer = eqb (told answer).refusal 0 && is_nothing (told answer).event

refused_lem : (refusal : ListenRefusal) → none_told (Err refusal) ≡ false
refused_lem NotSound = refl
refused_lem MemoryTooShort = refl

pub returns-in_default : goal.returns-in_default
returns-in_default c =
    let l = c.args.samples.now in
    let n = c.args.cut in
    first_says c.args.reader l (take n l) (back l n) c.args.memory.now _ [] c.listen-first.result c.listen-first.result
    (whole l n) c.listen-first.ensures (ap none_told c.in_default.is ∙ refused_lem _)

pub returns-then-is_some : goal.returns-then-is_some
returns-then-is_some c =
    let l = c.args.samples.now in
    let n = c.args.cut in
    first_says c.args.reader l (take n l) (back l n) c.args.memory.now _ [] c.listen-first.result c.listen-first.result
    (whole l n) c.listen-first.ensures (ap none_told c.in-Ok.is ∙ told_some c.in-Ok.event (sym c.is_some.ensures ∙ c.if-is_some.true))

pub overflow_add-result : goal.overflow_add-result
overflow_add-result c =
    let l = c.args.samples.now in
    let n = c.args.cut in
    let first = taken_at_most c.args.reader (take n l) c.args.memory.now _ c.listen-first.result c.listen-first.ensures in
    let second = taken_at_most c.listen-first.result.reader (back l n) _ _ c.listen-second.result c.listen-second.ensures in
    let both : length (take n l) + length (back l n) ≡ length l = sym (length-append (take n l) (back l n)) ∙ ap length (whole l n) in
    let size : Fits w64 (length l) = search rules in
    let small = size.fits in
    record { fits = omega arith }

pub returns : goal.returns
returns c =
    let l = c.args.samples.now in
    let n = c.args.cut in
    both_say c.args.reader l (take n l) (back l n) c.args.memory.now _ _ c.listen-first.result c.listen-second.result
    (whole l n) c.listen-first.ensures
    (ap none_told c.in-Ok.is ∙ told_none c.in-Ok.event (sym c.is_some.ensures ∙ c.if-is_some.false)) c.listen-second.ensures
