-- From the contracts of opening and of listening alone.
use Rattle.std.proofs.Common.{◌≡◌, refl, sym, ℕ, ◌∷◌, ap, ◌∙◌}
use Rattle.std.specs.Prelude.{Result, Some, None, Ok, Err}
use Rattle.refusal.specs.Answer as answer
use Rattle.wire_reader.specs.declared.event.Heard.{Heard}
use Rattle.wire_reader.specs.declared.event.WireError.{WireError}
use Rattle.wire_reader.specs.Event.{Event, number_of}
use Rattle.wire_reader.specs.Listening.{told_by, number_in}
use Rattle.reader_claims.specs.Numbers.{is_one_of, error_numbers}
use Rattle.reader_claims.proofs.Numbers.{first_number}
use Rattle.reader_claims.proofs.first_number.Goals as goal

number_is : (told : Result Heard WireError) → answer.number_in number_of told ≡ number_in (told_by (Some told))
number_is (Ok heard) = refl
number_is (Err error) = refl

pub returns-in-Some : goal.returns-in-Some
returns-in-Some c =
    ap (λ (n : ℕ). is_one_of n (0 ∷ error_numbers))
    (c.number.ensures ∙ number_is c.in-Some.told ∙ ap (λ (e : Event). number_in (told_by e)) (sym c.in-Some.is ∙ c.unwrap_or.ensures))
    ∙ first_number c.args.channel c.open_reader-opened.result c.args.samples.now c.args.memory.now _ c.listen-heard.result
    c.open_reader-opened.ensures c.listen-heard.ensures

pub returns-in-None : goal.returns-in-None
unfolding is_one_of
returns-in-None c = refl
