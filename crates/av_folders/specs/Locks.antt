-- The system's list of locks, of which a line tells one: `1: POSIX  ADVISORY  WRITE 4711 fe:00:131077 0 EOF`.
use Rattle.std.specs.Prelude.{◌≡◌, ◌||◌, ◌&&◌, ℕ, ◌+◌, ◌*◌, ◌/◌, ◌%◌, ◌==◌, nat_lt, length, List, Option, Some, None, Bool, false, [], ◌-◌, ◌^◌, if◌then◌else◌, codes, filter, map, string_bytes}
use Rattle.std.specs.Borrow.{Bor}
use Rattle.std.specs.List.{slice_get, slice_split}
use Rattle.std.specs.Option.{option_and_then}
use Rattle.std.specs.Str.{bytes_eq}
use Rattle.std.specs.Fmt.{decimal, digits, format_spec, padded_integral}
use Rattle.av_folders.specs.declared.locks.FileNumbers.{FileNumbers}
use Rattle.av_folders.specs.declared.locks.Lock.{Lock}

abbrev pub texts : List (Bor (List ℕ)) → List (List ℕ)
texts words = map (λ w. w.now) words

-- the parts between separators
abbrev pub split_on : ℕ → List ℕ → List (List ℕ)
split_on separator text = slice_split (λ b. b == separator) text

abbrev pub is_filled : List ℕ → Bool
is_filled word = nat_lt 0 (length word)

-- what stands between spaces
abbrev pub words_of : List ℕ → List (List ℕ)
words_of line = filter is_filled (split_on 32 line)

-- a lock: its process and its file, by the numbers of the file's device and its own number
pub record LockWords : Type 0 where
  pub process : List ℕ
  pub major : List ℕ
  pub minor : List ℕ
  pub number : List ℕ

abbrev pub lock_words : Lock → LockWords
lock_words l = record { process = l.process.now; major = l.major.now; minor = l.minor.now; number = l.number.now }

-- a lock that is held, of whatever kind: a line of one that is waited for has an arrow there
abbrev pub is_kind : List ℕ → Bool
is_kind word = bytes_eq word (codes "POSIX") || (bytes_eq word (codes "OFDLCK") || bytes_eq word (codes "FLOCK"))

-- by the three parts of `fe:00:131077`
abbrev pub lock_at : List ℕ → List (List ℕ) → Option LockWords
lock_at process parts = option_and_then (λ major. option_and_then (λ minor. option_and_then (λ number.
    Some (record { process = process; major = major; minor = minor; number = number }))
    (slice_get parts 2)) (slice_get parts 1)) (slice_get parts 0)

-- by the second, the fifth and the sixth word
abbrev pub lock_by : List (List ℕ) → Option LockWords
lock_by words = option_and_then (λ kind. option_and_then (λ process. option_and_then (λ file.
    if is_kind kind then lock_at process (split_on 58 file) else None)
    (slice_get words 5)) (slice_get words 4)) (slice_get words 1)

abbrev pub lock_in : List ℕ → Option LockWords
lock_in line = lock_by (words_of line)

-- a device without a disk, as that of a file system in memory or over others. Such a one may be listed under another number than its files have.
abbrev pub is_diskless : List ℕ → Bool
is_diskless major = bytes_eq major (codes "00")

-- The lock may be on a file of these numbers: it has the file's number, and the devices are not those of two disks.
abbrev pub may_be_on : LockWords → List ℕ → List ℕ → List ℕ → Bool
may_be_on l major minor number = bytes_eq l.number number
    && ((bytes_eq l.major major && bytes_eq l.minor minor) || (is_diskless l.major || is_diskless major))

-- ---- the numbers of a file

-- the two numbers of a device, of 12 and more bits and of 8 and more, as the system packs them into one
abbrev pub major_of : ℕ → ℕ
major_of device = device / 256 % 4096 + device / 17592186044416 * 4096

abbrev pub minor_of : ℕ → ℕ
minor_of device = device % 256 + device / 1048576 % 16777216 * 256

-- hex digits, two at least
abbrev pub two_hex : ℕ → List ℕ
two_hex n = padded_integral (format_spec 32 0 4 2 (2 ^ 64 - 1)) false [] (digits 16 false n)

-- a file's numbers as they are listed
pub record AreNumbersOf (device number : ℕ) (f : FileNumbers) : Type 0 where
  pub major : string_bytes f.major ≡ two_hex (major_of device)
  pub minor : string_bytes f.minor ≡ two_hex (minor_of device)
  pub number_of : string_bytes f.number ≡ decimal number
