-- An answer's eight bytes at place n of a buffer, big-endian: its upper word, then its lower.
use Rattle.std.specs.Prelude.{ℕ, ◌+◌, ◌*◌, ◌/◌, ◌%◌, List}
use Rattle.lib_word.specs.Word.{put}

unfoldable pub put_answer : List ℕ → ℕ → ℕ → List ℕ
put_answer b n a = put (put b (n * 2) (a / 4294967296)) (n * 2 + 1) (a % 4294967296)
