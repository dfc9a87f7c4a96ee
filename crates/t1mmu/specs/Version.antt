-- The version of the library's calls as one number.
-- Assumes nothing.
use Rattle.std.specs.Prelude.{ℕ, ◌+◌, ◌*◌}

-- a byte each for minor and patch
abbrev pub version_number : ℕ → ℕ → ℕ → ℕ
version_number major minor patch = major * 65536 + minor * 256 + patch

-- 4.0.0: document 01, and U1 to U6 of document 02
abbrev pub version : ℕ
version = version_number 4 0 0
