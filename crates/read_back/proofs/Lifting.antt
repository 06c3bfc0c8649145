-- Samples that are changed harmlessly are read as the bits that they were sent for.
use Prim.Native.Nat.{ℕ, zero, suc, ◌+◌, ◌*◌, ◌≤◌}
use mathlib.Core.Path.{◌≡◌, refl, ap, ◌∙◌}
use mathlib.Core.Bool.{Bool, true}
use mathlib.Core.List.{List, [], ◌∷◌, ◌++◌}
use native.Mathlib.Omega.{arith}
use lib.ListN.{length}
use Rattle.division.specs.Division.{◌⊕◌}
use Rattle.base_types.specs.declared.channel.Channel.{Channel}
use Rattle.wire_reader.specs.Decoder.{Told, nothing, frame, wrong, Place}
use Rattle.wire_reader.specs.Reader.{State, Event, Run, run, noted}
use Rattle.read_back.specs.Sending.{sampled}
use Rattle.read_back.proofs.Course.{Course, plus8, meant, reached, follow}
use Rattle.read_back.proofs.Patterns.{Flips, Calm, next8, calm_next8}
use Rattle.read_back.proofs.Clocks.{near, timely, timely_says}
use Rattle.read_back.proofs.Passing.{with}
use Rattle.read_back.proofs.Edges.{near_cell}

-- ---- samples, some of them changed

unfoldable pub flipped : Flips → List Bool → List Bool
flipped f [] = []
flipped f (x ∷ l) = (f 0 ⊕ x) ∷ flipped (λ n. f (suc n)) l

-- Behind the four that came before.
abbrev pub past4 : Flips → Flips
past4 f n = f (suc (suc (suc (suc n))))

-- ---- between bits

-- What is known when a bit begins.
pub record Edge (exact : Bool) : Type 0 where
  pub flips : Flips
  pub calm : Calm exact flips
  pub strobe : ℕ
  pub from : 5 ≤ strobe
  pub to : strobe ≤ 8
  pub realigns : Bool
  pub timer : ℕ
  pub small : timer ≤ 88

module _ {exact : Bool} where
  -- Behind bit b, at a place.
  abbrev pub behind : Bool → Edge exact → Place → State
  behind b e p = with (near b e.flips e.strobe e.realigns) e.timer p

-- Events that are told before a run.
abbrev pub beside : List Event → Run State → Run State
beside l r = record { state = r.state; events = l ++ r.events }

noted_beside : (i : ℕ) (t : Told) (m : List ℕ) (r : Run Place) (g : Place → Run State)
    → noted i t m (beside r.events (g r.state)) ≡ beside (noted i t m r).events (g (noted i t m r).state)
noted_beside i nothing m r g = refl
noted_beside i (frame header size since) m r g = refl
noted_beside i (wrong told) m r g = refl

-- The last bit: that of a string, or, where it is empty, the one before.
unfoldable pub last_of : Bool → List Bool → Bool
last_of b [] = b
last_of b (next ∷ l) = last_of next l

-- ---- bit after bit

first_then : {A : Type 0} → A → (ℕ → A) → ℕ → A
first_then a f zero = a
first_then a f (suc n) = f n

-- The bits behind bit b are followed, each strobed in time.
pub record Followed (exact : Bool) (channel : Channel) (i : ℕ) (before : State) (b : Bool) (bits samples rest : List Bool) : Type 0 where
  pub course : Course
  pub timed : (n : ℕ) → timely exact (course.strobe n) ≡ true
  pub edge : Edge exact
  pub goes : let r = follow bits channel course i before.place in
      run channel i before samples
      ≡ beside r.events (run channel (i + 8 * length bits) (behind (last_of b bits) edge r.state) (flipped (past4 edge.flips) rest))

pub lift : (bits : List Bool) (exact : Bool) (channel : Channel) (i : ℕ) (b a : Bool) (j : ℕ) (f : Flips) (t : ℕ) (p : Place) (rest : List Bool)
    → timely exact j ≡ true → Calm exact f → t ≤ 88
    → Followed exact channel i (with (near b f j a) t p) b bits (flipped (past4 f) (sampled bits ++ rest)) rest
unfolding follow sampled flipped last_of first_then
lift [] exact channel i b a j f t p rest h c small =
    let within = timely_says exact j h in
    let e : Edge exact = record {
      flips = f;
      calm = c;
      strobe = j;
      from = within.0;
      to = omega (arith, within.1);
      realigns = a;
      timer = t;
      small = small;
    } in
    record {
      course = record { idle = (λ n. true); strobe = (λ n. j) };
      timed = (λ n. h);
      edge = e;
      goes = ap (λ (k : ℕ). run channel k (behind b e p) (flipped (past4 f) rest)) (omega arith);
    }
lift (y ∷ bits) exact channel i b a j f t p rest h c small =
    let k = near_cell exact channel i t f (flipped (past4 (next8 f)) (sampled bits ++ rest)) b a j p y h c in
    let d = meant channel k.idle k.strobe p y in
    let q = reached k.strobe p d.place in
    let r = lift bits exact channel (plus8 i) y k.realigns k.strobe (next8 f) k.timer q rest k.timed (calm_next8 c) k.small in
    let o : Course = record { idle = first_then k.idle r.course.idle; strobe = first_then k.strobe r.course.strobe } in
    let z : ℕ → Place → Run State = λ n p. run channel n (behind (last_of y bits) r.edge p) (flipped (past4 r.edge.flips) rest) in
    let whole = follow (y ∷ bits) channel o i p in
    record {
      course = o;
      timed = by k.strobe r.course.strobe k.timed r.timed;
      edge = r.edge;
      goes =
          k.goes
          ∙ ap (noted (i + k.strobe) d.told d.place.memory) r.goes
          ∙ noted_beside (i + k.strobe) d.told d.place.memory (follow bits channel r.course (plus8 i) q) (z (plus8 i + 8 * length bits))
          ∙ ap (λ (n : ℕ). beside whole.events (z n whole.state)) (omega arith);
    }
  where
    by : (j : ℕ) (f : ℕ → ℕ) → timely exact j ≡ true → ((n : ℕ) → timely exact (f n) ≡ true) → (n : ℕ) → timely exact (first_then j f n) ≡ true
    by j f h g zero = h
    by j f h g (suc n) = g n
