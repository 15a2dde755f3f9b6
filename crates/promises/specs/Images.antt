-- Memory images in Intel HEX: 02, CR 10, sentence by sentence. A call is what is handed in and lent, and any reply and buffers that the
-- contract of `milestarling_import` allows.
use Rattle.std.specs.Prelude.{ℕ, suc, ◌+◌, ◌-◌, ◌*◌, ◌^◌, ◌≤◌, ◌<◌, ◌≡◌, Bool, true, false, List, [], ◌∷◌, ◌++◌, ◌↔◌, ◌⊎◌, length, get_or, replicate}
use Prim.Native.String.{String}
use Rattle.std.proofs.lemmas.List.Edits.{sets}
use Rattle.ascii.specs.Ascii.{asc}
use Rattle.plan.specs.declared.window.Window.{Window}
use Rattle.image.specs.declared.Reply.{Reply}
use Rattle.image.specs.Lines.{lines_of, digit_of, byte_in, count_in}
use Rattle.image.specs.Records.{type_in, upper_after, places_in, places_of}
use Rattle.image.specs.Import.{outcome, import_of}
use Rattle.image.specs.Faults.{IsMalformed, WrongSum, WrongType, address_in, Outside, fault_of, fault_at, Lowest, OneEnd}
use Rattle.image.specs.Last.{named, LastIs}
use Rattle.image.specs.Hex.{upper_digits, lower_digits, hex_of, AllBytes}
use Rattle.promises.specs.Answered.{one_of, WrongLent}

pub record ImportCall : Type 0 where
  pub text : List ℕ
  pub window : Window
  -- lent memory and its marks, before and after
  pub memory : List ℕ
  pub taint : List ℕ
  pub memory' : List ℕ
  pub taint' : List ℕ
  pub reply : Reply
  pub allowed : outcome reply memory' taint' ≡ import_of window text memory taint

-- all data bytes of the text, each with its address, in their order
abbrev pub data_of : ImportCall → List (ℕ × ℕ)
data_of c = places_of 0 (lines_of c.text)

abbrev pub BadLent : ImportCall → Type 0
BadLent c = WrongLent c.window (length c.memory) (length c.taint)

-- an image of some bytes, and a window with room for it
pub record Holds (c : ImportCall) (start : ℕ) (bytes : List ℕ) : Type 0 where
  pub good : ¬ BadLent c
  pub all : AllBytes bytes
  pub starts : c.window.origin ≤ start
  pub ends : start + length bytes ≤ c.window.origin + length c.memory
  pub low : start + length bytes ≤ 2 ^ 32

pub record ReadBack (c : ImportCall) (start : ℕ) (bytes : List ℕ) : Type 0 where
  pub answer : c.reply.answer ≡ 0
  pub memory : c.memory' ≡ sets c.memory (start - c.window.origin) bytes
  pub taint : c.taint' ≡ sets c.taint (start - c.window.origin) (replicate (length bytes) 0)

-- lines, each with its newline
abbrev pub text_of : List String → List ℕ
text_of [] = []
text_of (s ∷ ss) = asc s ++ (10 ∷ text_of ss)

-- of a text, into 4 bytes from an address on that are all read-only and marked: the answer, its line, and what memory and marks are then
abbrev pub GivesText : ℕ → List ℕ → ℕ → ℕ → List ℕ → List ℕ → Type 0
GivesText origin text answer line memory taint =
    import_of (record { origin = origin; readonly = 4 }) text (1 ∷ 2 ∷ 3 ∷ 4 ∷ []) (1 ∷ 1 ∷ 1 ∷ 1 ∷ [])
    ≡ outcome (record { answer = answer; line = line }) memory taint

abbrev pub Gives : ℕ → List String → ℕ → ℕ → List ℕ → List ℕ → Type 0
Gives origin lines answer line memory taint = GivesText origin (text_of lines) answer line memory taint

-- refused, at 16
abbrev pub RefusesText : List ℕ → ℕ → ℕ → Type 0
RefusesText text answer line = GivesText 16 text answer line (1 ∷ 2 ∷ 3 ∷ 4 ∷ []) (1 ∷ 1 ∷ 1 ∷ 1 ∷ [])

abbrev pub Refuses : List String → ℕ → ℕ → Type 0
Refuses lines answer line = RefusesText (text_of lines) answer line

pub record Images : Type 0 where
  pub answers : (c : ImportCall) → one_of (0 ∷ 1 ∷ 7 ∷ 13 ∷ 14 ∷ 15 ∷ []) c.reply.answer ≡ true
  -- "Refusals: 1 for window or mark length"
  pub window : (c : ImportCall) → (c.reply.answer ≡ 1) ↔ BadLent c
  -- "then lowest line first": any other number is answered exactly if a line's first fault has it, and no line before it has a fault;
  -- 0 exactly if none has. The reply names that line, from 1, and 0 where no line is refused
  pub lowest : (c : ImportCall) → ¬ BadLent c → (k n : ℕ) → ¬ (n ≡ 0)
      → ((c.reply.answer ≡ n) × (c.reply.line ≡ suc k)) ↔ Lowest c.window.origin (length c.memory) false 0 (lines_of c.text) k n
  pub faultless : (c : ImportCall) → ¬ BadLent c
      → (c.reply.answer ≡ 0) ↔ ((k : ℕ) → fault_at c.window.origin (length c.memory) false 0 (lines_of c.text) k ≡ 0)
  pub no_line : (c : ImportCall) → (c.reply.answer ≡ 0) ⊎ (c.reply.answer ≡ 1) → c.reply.line ≡ 0
  -- "and in a line: 13 malformed .., a count not 2 in type 04 or not 0 in 01, a line after the end ..; 14 checksum, 15 type, 7 a byte
  -- outside the window", each where none before it holds
  pub malformed : (origin len : ℕ) (ended : Bool) (upper : ℕ) (l : List ℕ) → (fault_of origin len ended upper l ≡ 13) ↔ IsMalformed ended l
  pub checksum : (origin len : ℕ) (ended : Bool) (upper : ℕ) (l : List ℕ) → (fault_of origin len ended upper l ≡ 14) ↔ ((¬ IsMalformed ended l) × WrongSum l)
  pub type : (origin len : ℕ) (ended : Bool) (upper : ℕ) (l : List ℕ) → (fault_of origin len ended upper l ≡ 15) ↔ ((¬ IsMalformed ended l) × (¬ WrongSum l) × WrongType l)
  pub outside : (origin len : ℕ) (ended : Bool) (upper : ℕ) (l : List ℕ)
      → (fault_of origin len ended upper l ≡ 7) ↔ ((¬ IsMalformed ended l) × (¬ WrongSum l) × (¬ WrongType l) × Outside origin len upper l)
  -- "one type 01 line last"; "or a missing end (taken as one line more)"
  pub one_end : (c : ImportCall) → c.reply.answer ≡ 0 → OneEnd (lines_of c.text)
  pub missing_end : (origin len : ℕ) (ended : Bool) (upper : ℕ) → (fault_at origin len ended upper [] 0 ≡ 13) ↔ (ended ≡ false)
  -- "memory and marks unchanged"
  pub refused : (c : ImportCall) → ¬ (c.reply.answer ≡ 0) → (c.memory' ≡ c.memory) × (c.taint' ≡ c.taint)
  -- "An address is upper half (0 at first), offset and index added modulo 2^32, so a line may run on past 64 KiB; types 01 and 04
  -- ignore their offset"
  pub address : (upper : ℕ) (l : List ℕ) (i : ℕ) → type_in l ≡ 0 → i < count_in l → get_or (places_in upper l) i (0, 0) ≡ (address_in upper l i, byte_in l (4 + i))
  pub counted : (upper : ℕ) (l : List ℕ) → type_in l ≡ 0 → length (places_in upper l) ≡ count_in l
  pub no_data : (upper : ℕ) (l : List ℕ) → ¬ (type_in l ≡ 0) → places_in upper l ≡ []
  pub upper_half : (upper : ℕ) (l : List ℕ) → type_in l ≡ 4 → count_in l ≡ 2 → upper_after upper l ≡ byte_in l 4 * 256 + byte_in l 5
  pub same_half : (upper : ℕ) (l : List ℕ) → ¬ (type_in l ≡ 4) → upper_after upper l ≡ upper
  -- "Later bytes replace earlier ones; marks of written bytes become 0": done, the byte at an address is the last of the text with it,
  -- and unmarked; every other byte and mark is as before
  pub written : (c : ImportCall) → c.reply.answer ≡ 0 → (i : ℕ) → i < length c.memory → named (c.window.origin + i) (data_of c) ≡ true
      → LastIs (c.window.origin + i) (data_of c) (get_or c.memory' i 0) × (get_or c.taint' i 0 ≡ 0)
  pub kept : (c : ImportCall) → c.reply.answer ≡ 0 → (i : ℕ) → i < length c.memory → named (c.window.origin + i) (data_of c) ≡ false
      → (get_or c.memory' i 0 ≡ get_or c.memory i 0) × (get_or c.taint' i 0 ≡ get_or c.taint i 0)
  pub lengths : (c : ImportCall) → (length c.memory' ≡ length c.memory) × (length c.taint' ≡ length c.taint)
  -- "upper or lower case digits": the text that is written for an image is read, and leaves exactly its bytes
  pub upper_read : (c : ImportCall) (start : ℕ) (bytes : List ℕ) → Holds c start bytes → c.text ≡ hex_of upper_digits start bytes → ReadBack c start bytes
  pub lower_read : (c : ImportCall) (start : ℕ) (bytes : List ℕ) → Holds c start bytes → c.text ≡ hex_of lower_digits start bytes → ReadBack c start bytes
  -- and nothing else is a digit
  pub digits : (c : ℕ) → (digit_of c < 16) ↔ (one_of (asc "0123456789ABCDEFabcdef") c ≡ true)
  -- a line with three faults, and with one of them less each time; a line of data with two; the count of an end and its checksum
  pub three_faults : Refuses (":00000005FFF" ∷ ":00000001FF" ∷ []) 13 1
  pub two_faults : Refuses (":00000005FF" ∷ ":00000001FF" ∷ []) 14 1
  pub one_fault : Refuses (":00000005FB" ∷ ":00000001FF" ∷ []) 15 1
  pub sum_and_window : Refuses (":0100000000FE" ∷ ":00000001FF" ∷ []) 14 1
  pub window_alone : Refuses (":0100000000FF" ∷ ":00000001FF" ∷ []) 7 1
  pub count_and_sum : Refuses (":0100000100FF" ∷ []) 13 1
  -- a type 04 line of three bytes; more pairs than the count asks; an empty line; a carriage return; no newline; a byte behind the
  -- window, and one that comes to lie before it, since addresses are modulo 2^32; a window above all of them
  pub upper_count : Refuses (":03000004000000F9" ∷ ":00000001FF" ∷ []) 13 1
  pub too_long : Refuses (":00000001FF00" ∷ []) 13 1
  pub empty_line : Refuses (":0100100000EF" ∷ "" ∷ ":00000001FF" ∷ []) 13 2
  pub returned : RefusesText (asc ":00000001FF" ++ (13 ∷ 10 ∷ [])) 13 1
  pub no_newline : RefusesText (asc ":00000001FF") 13 1
  pub behind_window : Refuses (":0100140000EB" ∷ ":00000001FF" ∷ []) 7 1
  pub around : Gives 4294967295 (":02000004FFFFFC" ∷ ":02FFFF00AABB9B" ∷ ":00000001FF" ∷ []) 7 2 (1 ∷ 2 ∷ 3 ∷ 4 ∷ []) (1 ∷ 1 ∷ 1 ∷ 1 ∷ [])
  pub window_above : Gives 4294967312 (":0100100000EF" ∷ ":00000001FF" ∷ []) 7 1 (1 ∷ 2 ∷ 3 ∷ 4 ∷ []) (1 ∷ 1 ∷ 1 ∷ 1 ∷ [])
  -- the lower line of two; a line behind the end; no end; no line
  pub lower_line : Refuses (":0100000000FF" ∷ ":00000005FFF" ∷ []) 7 1
  pub behind_end : Refuses (":00000001FF" ∷ ":00000001FF" ∷ []) 13 2
  pub no_end : Refuses (":0100100000EF" ∷ []) 13 2
  pub no_lines : Refuses [] 13 1
  -- a line of no bytes, wherever; a later byte replaces an earlier one, in lower case, with an offset of the end; a line that runs on
  -- past 64 KiB; an upper half, whatever the offset of its line
  pub no_bytes : Gives 16 (":0000000000" ∷ ":00000001FF" ∷ []) 0 0 (1 ∷ 2 ∷ 3 ∷ 4 ∷ []) (1 ∷ 1 ∷ 1 ∷ 1 ∷ [])
  pub replaced : Gives 16 (":03001000aaBBccbc" ∷ ":01001200DD10" ∷ ":00123401b9" ∷ []) 0 0 (170 ∷ 187 ∷ 221 ∷ 4 ∷ []) (0 ∷ 0 ∷ 0 ∷ 1 ∷ [])
  pub runs_on : Gives 65534 (":03FFFE00AABBCCCF" ∷ ":00000001FF" ∷ []) 0 0 (170 ∷ 187 ∷ 204 ∷ 4 ∷ []) (0 ∷ 0 ∷ 0 ∷ 1 ∷ [])
  pub put_above : Gives 65536 (":021234040001B3" ∷ ":01000300AA52" ∷ ":00000001FF" ∷ []) 0 0 (1 ∷ 2 ∷ 3 ∷ 170 ∷ []) (1 ∷ 1 ∷ 1 ∷ 0 ∷ [])
