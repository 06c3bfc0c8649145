-- Lent bytes that others are laid over.
use Rattle.std.specs.Prelude.{ℕ, List, ◌++◌, length, drop}

-- Bytes laid over the first of others: "bytes after the frame stay".
unfoldable pub over : List ℕ → List ℕ → List ℕ
over bytes output = bytes ++ drop (length bytes) output
