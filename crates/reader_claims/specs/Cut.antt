-- The same samples cut anywhere.
use Rattle.std.specs.Prelude.{ℕ, ◌+◌, ◌≡◌, Bool, List, [], ◌∷◌, ◌++◌, length}
use Rattle.base_types.specs.declared.channel.Channel.{Channel}
use Rattle.wire_reader.specs.Decoder.{Told, nothing, frame, wrong}
use Rattle.wire_reader.specs.Reader.{State, Run, run, Piece, piece}

-- One run behind the other: the later state, and the events of both.
module _ {S : Type 0} where
  abbrev pub joined : Run S → Run S → Run S
  joined r q = record { state = q.state; events = r.events ++ q.events }

-- Pieces played one behind the other, from sample number i on, and their samples in one.
unfoldable pub played_in_pieces : Channel → ℕ → State → List (List Bool) → Run State
played_in_pieces channel i s [] = record { state = s; events = [] }
played_in_pieces channel i s (l ∷ pieces) =
    joined (run channel i s l) (played_in_pieces channel (i + length l) (run channel i s l).state pieces)

unfoldable pub in_one : List (List Bool) → List Bool
in_one [] = []
in_one (l ∷ pieces) = l ++ in_one pieces

-- Any pieces give the same events at the same samples, the same memory and the same state at the end.
abbrev pub CutAnywhere : Type 0
CutAnywhere =
    (channel : Channel) (i : ℕ) (s : State) (pieces : List (List Bool)) → played_in_pieces channel i s pieces ≡ run channel i s (in_one pieces)

-- ---- up to the first event

-- A piece behind another: where the first told something it stands, else both are one.
abbrev pub then_piece : Told → Piece → Piece → Piece
then_piece nothing p q = record { taken = p.taken + q.taken; state = q.state; told = q.told }
then_piece (frame header size since) p q = p
then_piece (wrong told) p q = p

abbrev pub PieceCut : Type 0
PieceCut =
    (channel : Channel) (s : State) (l m : List Bool)
    → piece channel s (l ++ m) ≡ then_piece (piece channel s l).told (piece channel s l) (piece channel (piece channel s l).state m)
