-- The text of each fault, as it is printed, and which of several is answered.
use Rattle.std.specs.Prelude.{◌≡◌, ◌≢◌, ℕ, List, [], ◌∷◌, ◌++◌, Option, Some, None, min, codes, string_bytes}
use Rattle.std.specs.Fmt.{decimal, signed_decimal}
use Rattle.av_types.specs.declared.fault.Fault.{Fault}
use Rattle.av_types.specs.declared.fault.Fault.TheVariants.{OutOfMemory, RegionRange, RepeatedRegion, ShortHeader, BadLocation, TruncatedChunk, BadLength, ExternalChunk, Compression, BadNbt, OldLayout, BadChunk, WrongPlace, BadPalette, BadPacked, BadTick, BadWaterLevel, TooManyStates, BadTable, BadEdit, EditTick, EditOutside, BadCount, ChunkTooLarge, Device, Broken}

abbrev pub fault_text : Fault → List ℕ
fault_text OutOfMemory = codes "fault 01: OutOfMemory"
fault_text RegionRange = codes "fault 02: RegionRange"
fault_text RepeatedRegion = codes "fault 03: RepeatedRegion"
fault_text ShortHeader = codes "fault 04: ShortHeader"
fault_text BadLocation = codes "fault 05: BadLocation"
fault_text TruncatedChunk = codes "fault 06: TruncatedChunk"
fault_text BadLength = codes "fault 07: BadLength"
fault_text ExternalChunk = codes "fault 08: ExternalChunk"
fault_text (Compression kind) = codes "fault 09: Compression " ++ decimal kind
fault_text BadNbt = codes "fault 10: BadNbt"
fault_text OldLayout = codes "fault 11: OldLayout"
fault_text BadChunk = codes "fault 12: BadChunk"
fault_text WrongPlace = codes "fault 13: WrongPlace"
fault_text BadPalette = codes "fault 14: BadPalette"
fault_text BadPacked = codes "fault 15: BadPacked"
fault_text BadTick = codes "fault 16: BadTick"
fault_text BadWaterLevel = codes "fault 17: BadWaterLevel"
fault_text TooManyStates = codes "fault 18: TooManyStates"
fault_text BadTable = codes "fault 19: BadTable"
fault_text (BadEdit line) = codes "fault 20: BadEdit " ++ decimal line
fault_text (EditTick line) = codes "fault 21: EditTick " ++ decimal line
fault_text (EditOutside line) = codes "fault 22: EditOutside " ++ decimal line
fault_text BadCount = codes "fault 23: BadCount"
fault_text (ChunkTooLarge c) = codes "fault 24: ChunkTooLarge " ++ signed_decimal c.x ++ codes " " ++ signed_decimal c.z
fault_text (Device name) = codes "fault 25: Device " ++ string_bytes name
fault_text Broken = codes "fault 26: Broken"

-- a fault's number
abbrev pub fault_number : Fault → ℕ
fault_number OutOfMemory = 1
fault_number RegionRange = 2
fault_number RepeatedRegion = 3
fault_number ShortHeader = 4
fault_number BadLocation = 5
fault_number TruncatedChunk = 6
fault_number BadLength = 7
fault_number ExternalChunk = 8
fault_number (Compression kind) = 9
fault_number BadNbt = 10
fault_number OldLayout = 11
fault_number BadChunk = 12
fault_number WrongPlace = 13
fault_number BadPalette = 14
fault_number BadPacked = 15
fault_number BadTick = 16
fault_number BadWaterLevel = 17
fault_number TooManyStates = 18
fault_number BadTable = 19
fault_number (BadEdit line) = 20
fault_number (EditTick line) = 21
fault_number (EditOutside line) = 22
fault_number BadCount = 23
fault_number (ChunkTooLarge chunk) = 24
fault_number (Device name) = 25
fault_number Broken = 26

-- of several numbers, the least: of the faults that hold of one thing, the one that is answered
abbrev pub lesser : ℕ → Option ℕ → ℕ
lesser n None = n
lesser n (Some m) = min n m

abbrev pub least : List ℕ → Option ℕ
least [] = None
least (n ∷ ns) = Some (lesser n (least ns))

-- what is answered where something was refused: want of memory, or the fault of this number
pub record IsRefusal (number : Option ℕ) (e : Fault) : Type 0 where
  pub first : e ≢ OutOfMemory → number ≡ Some (fault_number e)
