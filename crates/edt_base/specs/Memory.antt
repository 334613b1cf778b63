-- What the files and sinks in memory show, and when they fail.
use Rattle.std.specs.Prelude.{◌≡◌, ◌+◌, ◌-◌, ◌^◌, ℕ, Bool, false, List, [], ◌∷◌, ◌++◌, Option, Some, None, nat_eq, length, min, not, if◌then◌else◌, ◌&&◌, ◌||◌}
use Rattle.std.specs.List.{list_any}
use Rattle.edt_base.specs.declared.outside.Call.{Call}
use Rattle.edt_base.specs.Outside.{FilesSeen, SinkSeen, held_at, is_below}

-- files in memory: names with their bytes, the numbers of the calls that fail, how many calls there
-- were, the last that failed, and how many failed
pub record MemFilesData : Type 0 where
  pub held : List (List ℕ × List ℕ)
  pub fail : List ℕ
  pub calls : ℕ
  pub last : Option Call
  pub faults : ℕ

-- a sink in memory: the bytes taken, how many it has room for, how many one write takes at most, the
-- numbers of the writes that fail, how many writes there were, and how many failed
pub record MemSinkData : Type 0 where
  pub taken : List ℕ
  pub room : ℕ
  pub most : ℕ
  pub fail : List ℕ
  pub calls : ℕ
  pub faults : ℕ

-- the number of the call that comes next; calls count from 1, and the count stands at its last value
abbrev pub number_after : ℕ → ℕ
number_after calls = min (calls + 1) (2 ^ 64 - 1)

-- the call of this number is one that fails
abbrev pub is_listed : List ℕ → ℕ → Bool
is_listed fail call = list_any (λ n. nat_eq n call) fail

-- a held name stands below the folder
abbrev pub holds_folder : List (List ℕ × List ℕ) → List ℕ → Bool
holds_folder [] dir = false
holds_folder (e ∷ es) dir = is_below dir e.0 || holds_folder es dir

abbrev pub mem_files_seen : MemFilesData → FilesSeen
mem_files_seen m = record { told = Some (record { held = m.held; last = m.last }); faults = m.faults }

-- the bytes that the next read of a name gives: none at a listed call, and none at an absent name
abbrev pub next_read : MemFilesData → List ℕ → Option (List ℕ)
next_read m name = if is_listed m.fail (number_after m.calls) then None else held_at m.held name

-- the next listing of a folder fails: its call is listed, or the folder isn't there
abbrev pub list_fails : MemFilesData → List ℕ → Bool
list_fails m dir = is_listed m.fail (number_after m.calls) || not (holds_folder m.held dir)

-- one call was counted, and the files and the listed calls are the same
pub record CountsCall (old new : MemFilesData) : Type 0 where
  pub calls : new.calls ≡ number_after old.calls
  pub held : new.held ≡ old.held
  pub fail : new.fail ≡ old.fail

-- files in memory that never fail
abbrev pub good_files_seen : List (List ℕ × List ℕ) → FilesSeen
good_files_seen held = record { told = Some (record { held = held; last = None }); faults = 0 }

-- a sink that fails at no listed write is sure of the room that is left
abbrev pub sure_room : List ℕ → ℕ → ℕ
sure_room [] left = left
sure_room (n ∷ ns) left = 0

abbrev pub mem_sink_seen : MemSinkData → SinkSeen
mem_sink_seen s = record { bytes = Some s.taken; faults = s.faults; room = sure_room s.fail (s.room - length s.taken) }

-- the next write is refused: it is listed, or the piece has bytes and there is no room
abbrev pub refuses : MemSinkData → List ℕ → Bool
refuses s piece = is_listed s.fail (number_after s.calls)
    || (not (nat_eq (length piece) 0) && nat_eq (length s.taken) s.room)

-- how many bytes of a piece the next write takes where it isn't refused
abbrev pub taken_of : MemSinkData → List ℕ → ℕ
taken_of s piece = min (min (length piece) s.most) (s.room - length s.taken)

-- the sink after a write that took n bytes of the piece, and after one that was refused
abbrev pub sink_after : MemSinkData → List ℕ → MemSinkData
sink_after s piece = record s { taken = s.taken ++ piece; calls = number_after s.calls }

abbrev pub sink_refused : MemSinkData → MemSinkData
sink_refused s = record s { faults = number_after s.faults; calls = number_after s.calls }

-- a sink that keeps a number of bytes and tells none
abbrev pub null_sink_seen : ℕ → SinkSeen
null_sink_seen count = record { bytes = None; faults = 0; room = 0 }
