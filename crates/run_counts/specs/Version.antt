-- The version of the library: of the exported calls, and of the layout of table and round.
use Rattle.std.specs.Prelude.{ℕ, ◌+◌, ◌*◌}

abbrev pub interface_version : ℕ
interface_version = 1

abbrev pub layout_version : ℕ
layout_version = 1

abbrev pub version_number : ℕ
version_number = interface_version * 65536 + layout_version
