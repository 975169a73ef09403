-- The program's status after words that name no command.
use Rattle.std.specs.Prelude.{◌≡◌, ◌≤◌, ℕ}
use Rattle.clap.specs.declared.error.kind.ErrorKind.{ErrorKind}
use Rattle.clap.specs.declared.error.kind.ErrorKind.TheVariants as kind

-- the status after words that are refused, after a call for help, and after one for the version, which may not be written
abbrev pub IsRefusalStatus : ErrorKind → ℕ → Type 0
IsRefusalStatus kind.OutOfMemory status = status ≡ 1
IsRefusalStatus kind.DisplayVersion status = status ≤ 1
IsRefusalStatus other status = status ≡ 2
