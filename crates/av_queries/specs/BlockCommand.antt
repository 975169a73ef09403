-- What `block` prints. Which bytes the table and the file have, no clause can say.
use Rattle.std.specs.Prelude.{◌≡◌, ◌⊎◌, ℕ, List, Option}
use Rattle.av_types.specs.declared.position.Pos.{Pos}
use Rattle.av_types.specs.declared.position.Height.{Height}
use Rattle.av_types.specs.declared.fault.Fault.{Fault}
use Rattle.av_sink.specs.Account.{IsDevice}
use Rattle.av_commands.specs.BlockCommand.{HasAnswered}
use Rattle.av_commands.specs.Tables.{IsHeightBy, IsUnreadTable}

-- why the table and the file of `block` were not read
abbrev pub IsUnreadBlock : List ℕ → Option (List ℕ) → Fault → Type 0
IsUnreadBlock file table e = IsUnreadTable table e ⊎ IsDevice file e

-- what a run of `block` leaves on its output, and its status: the answer for the bytes that it read, or nothing and 1
pub data HasRunBlock (file : List ℕ) (at : Pos) (table : Option (List ℕ)) (before after : Option (List ℕ)) (status : ℕ) : Type 0 where
  answered : (bytes : List ℕ) (h : Height) → IsHeightBy table h → HasAnswered file bytes at h before after status → HasRunBlock file at table before after status
  unread : after ≡ before → status ≡ 1 → HasRunBlock file at table before after status
