-- The same samples cut anywhere, and a run as a piece and the run of what was not taken.
use Prim.Native.Nat.{ℕ, suc, ◌+◌, ◌-◌}
use mathlib.Core.Path.{◌≡◌, refl, sym, ap, ◌∙◌}
use mathlib.Core.Bool.{Bool}
use mathlib.Core.List.{List, [], ◌∷◌, ◌++◌}
use native.Mathlib.Omega.{arith}
use lib.ListN.{length, drop}
use Rattle.base_types.specs.declared.channel.Channel.{Channel}
use Rattle.wire_reader.specs.Decoder.{Told, nothing, frame, wrong}
use Rattle.wire_reader.specs.Reader.{State, Run, noted, step, run, Piece, or_else, piece}
use Rattle.reader_claims.specs.Cut.{joined, played_in_pieces, in_one, CutAnywhere, then_piece, PieceCut}

-- ---- runs

noted_joined : {S : Type 0} (i : ℕ) (t : Told) (m : List ℕ) (r q : Run S) → noted i t m (joined r q) ≡ joined (noted i t m r) q
noted_joined i nothing m r q = refl
noted_joined i (frame header size since) m r q = refl
noted_joined i (wrong told) m r q = refl

noted_state : {S : Type 0} (i : ℕ) (t : Told) (m : List ℕ) (r : Run S) → (noted i t m r).state ≡ r.state
noted_state i nothing m r = refl
noted_state i (frame header size since) m r = refl
noted_state i (wrong told) m r = refl

cut : (l m : List Bool) (channel : Channel) (i : ℕ) (s : State)
    → run channel i s (l ++ m) ≡ joined (run channel i s l) (run channel (i + length l) (run channel i s l).state m)
unfolding run
cut [] m channel i s = ap (λ (j : ℕ). run channel j s m) (omega arith)
cut (x ∷ l) m channel i s =
    let t = (step channel s x).told in
    let s2 = (step channel s x).state in
    let memory = s2.place.memory in
    let r = run channel (suc i) s2 l in
    ap (noted i t memory) (cut l m channel (suc i) s2)
    ∙ noted_joined i t memory r (run channel (suc i + length l) r.state m)
    ∙ ap (λ (q : State). joined (noted i t memory r) (run channel (suc i + length l) q m)) (sym (noted_state i t memory r))
    ∙ ap (λ (j : ℕ). joined (noted i t memory r) (run channel j (noted i t memory r).state m)) (omega arith)

pub cut_anywhere : CutAnywhere
unfolding played_in_pieces in_one run
cut_anywhere channel i s [] = refl
cut_anywhere channel i s (l ∷ pieces) =
    let r = run channel i s l in
    ap (joined r) (cut_anywhere channel (i + length l) r.state pieces) ∙ sym (cut l (in_one pieces) channel i s)

-- ---- pieces

one_more : (t : Told) (s : State) (p q : Piece) → or_else nothing s (then_piece t p q) ≡ then_piece t (or_else nothing s p) q
one_more nothing s p q = ap (λ (n : ℕ). record { taken = n; state = q.state; told = q.told }) (omega arith)
one_more (frame header size since) s p q = refl
one_more (wrong told) s p q = refl

-- what a sample tells before a piece; the others go on from the piece's state
or_then : (t : Told) (s : State) (p : Piece) (q : State → Piece)
    → or_else t s (then_piece p.told p (q p.state)) ≡ then_piece (or_else t s p).told (or_else t s p) (q (or_else t s p).state)
or_then nothing s p q = one_more p.told s p (q p.state)
or_then (frame header size since) s p q = refl
or_then (wrong told) s p q = refl

pub piece_cut : PieceCut
unfolding piece
piece_cut channel s [] m =
    let q = piece channel s m in
    ap (λ (n : ℕ). record { taken = n; state = q.state; told = q.told }) (omega arith)
piece_cut channel s (x ∷ l) m =
    let t = (step channel s x).told in
    let s2 = (step channel s x).state in
    ap (or_else t s2) (piece_cut channel s2 l m) ∙ or_then t s2 (piece channel s2 l) (λ (q : State). piece channel q m)

-- ---- a run is a piece, its event noted, and the run of the samples that were not taken

abbrev pub gone_on : Channel → ℕ → List Bool → Piece → Run State
gone_on channel i l p =
    noted (i + p.taken - 1) p.told p.state.place.memory (run channel (i + p.taken) p.state (drop p.taken l))

one_taken : (t : Told) (m : List ℕ) (channel : Channel) (i : ℕ) (s : State) (l : List Bool)
    → noted i t m (run channel (suc i) s l) ≡ noted (i + 1 - 1) t m (run channel (i + 1) s l)
one_taken t m channel i s l =
    let e : suc i ≡ i + 1 = omega arith in
    ap (λ (n : ℕ). noted i t m (run channel n s l)) e ∙ ap (λ (n : ℕ). noted n t m (run channel (i + 1) s l)) (omega arith)

run_or : (t : Told) (s : State) (p : Piece) (i : ℕ) (channel : Channel) (x : Bool) (l : List Bool)
    → run channel (suc i) s l ≡ gone_on channel (suc i) l p
    → noted i t s.place.memory (run channel (suc i) s l) ≡ gone_on channel i (x ∷ l) (or_else t s p)
run_or nothing s p i channel x l e =
    e ∙ ap (λ (n : ℕ). noted (n - 1) p.told p.state.place.memory (run channel n p.state (drop p.taken l))) (omega arith)
run_or (frame header size since) s p i channel x l e = one_taken (frame header size since) s.place.memory channel i s l
run_or (wrong told) s p i channel x l e = one_taken (wrong told) s.place.memory channel i s l

pub run_piece : (l : List Bool) (channel : Channel) (i : ℕ) (s : State) → run channel i s l ≡ gone_on channel i l (piece channel s l)
unfolding run piece
run_piece [] channel i s = refl
run_piece (x ∷ l) channel i s =
    let t = (step channel s x).told in
    let s2 = (step channel s x).state in
    run_or t s2 (piece channel s2 l) i channel x l (run_piece l channel (suc i) s2)
