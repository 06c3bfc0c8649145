-- Answers by what they say in 01's numbers.
use mathlib.Core.Path.{◌≡◌, sym, ap, ◌∙◌}

-- a number names one case, so answers that say the same in 01's numbers are one answer
pub one_answer : {A T : Type 0} (told : A → T) (by : T → A) → ((a : A) → by (told a) ≡ a) → {t : T} (a b : A) → told a ≡ t → told b ≡ t → a ≡ b
one_answer told by back a b ea eb = sym (back a) ∙ ap by (ea ∙ sym eb) ∙ back b
