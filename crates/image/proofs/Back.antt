-- A text that is written for an image is read back (`import_back`). Assumes nothing.
use Prim.Native.Nat.{ℕ, zero, suc, ◌+◌, ◌-◌, ◌*◌, ◌/◌, ◌%◌, ◌^◌, ◌≤◌, ◌<◌}
use mathlib.Core.Path.{◌≡◌, refl, sym, ap, ◌∙◌}
use mathlib.Core.Bool.{Bool, true, false}
use mathlib.Core.List.{List, [], ◌∷◌, ◌++◌}
use native.Mathlib.Omega.{arith}
use borrow.Author.Tests.{eqb-true, le-ltb, lt-leb}
use lib.Dec.{eqb}
use lib.ListN.{length, get_or, take, drop, set, replicate, length-append, length-take, length-drop, take-append-drop, replicate-append-replicate, length-replicate}
use lib.Seq.{sets}
use Rattle.bits.specs.Choice.{pick}
use Rattle.bits.proofs.Choices.{tested}
use Rattle.bits.proofs.Lists.{sets_append}
use Rattle.instruction.specs.declared.answer.Answer.TheVariants.{Done}
use Rattle.plan.specs.declared.window.Window.{Window}
use Rattle.plan.specs.Window.{bad_window}
use Rattle.plan.specs.Refusals.{answer_in}
use Rattle.image.specs.Lines.{lines_of, digit_of, byte_in, count_in}
use Rattle.image.specs.Records.{type_in, sum_in, is_end, bad_count, bad_type, upper_after, placed, places_in, places_of}
use Rattle.image.specs.Import.{reply, beyond, any_beyond, faults_in, checked, reply_of, put, puts, clears, outcome, import_of}
use Rattle.image.specs.Hex.{line_text, upper_text, data_text, upper_digits, lower_digits, hex_of, AllBytes}
use Rattle.image.specs.route.Rest.{begins, behind}
use Rattle.image.proofs.Steps.{check_line, places_first, puts_append, clears_append}
use Rattle.image.proofs.Written.{line_then, line_then_lem, line_count, line_begins, line_behind, line_high, line_low, line_type, line_data_at, line_data, line_sum}

-- ---- bytes at their addresses, where no address wraps

wraps_not : (a : ℕ) → a < 4294967296 → a % 4294967296 ≡ a
wraps_not a h = omega arith

put_in : (origin a b : ℕ) (xs : List ℕ) → origin ≤ a → put origin a b xs ≡ set xs (a - origin) b
unfolding put
put_in origin a b xs h = rw (le-ltb a origin h)

module _ (origin : ℕ) where
  placed_puts : (a : ℕ) (bs xs : List ℕ) → origin ≤ a → a + length bs ≤ 4294967296 → puts origin (placed a bs) xs ≡ sets xs (a - origin) bs
  placed_puts a [] xs h m = refl
  placed_puts a (b ∷ bs) xs h m =
      let e : suc a - origin ≡ suc (a - origin) = omega arith in
      rw (wraps_not a (omega arith), put_in origin a b xs h) (rw e at (placed_puts (suc a) bs (set xs (a - origin) b) (omega arith) (omega arith)))

  placed_clears : (a : ℕ) (bs xs : List ℕ) → origin ≤ a → a + length bs ≤ 4294967296 → clears origin (placed a bs) xs ≡ sets xs (a - origin) (replicate (length bs) 0)
  placed_clears a [] xs h m = refl
  placed_clears a (b ∷ bs) xs h m =
      let e : suc a - origin ≡ suc (a - origin) = omega arith in
      rw (wraps_not a (omega arith), put_in origin a 0 xs h) (rw e at (placed_clears (suc a) bs (set xs (a - origin) 0) (omega arith) (omega arith)))

  placed_inside : (len a : ℕ) (bs : List ℕ) → origin ≤ a → a + length bs ≤ origin + len → a + length bs ≤ 4294967296 → any_beyond origin len (placed a bs) ≡ false
  unfolding beyond
  placed_inside len a [] h l m = refl
  placed_inside len a (b ∷ bs) h l m =
      rw (wraps_not a (omega arith), le-ltb a origin h, lt-leb (origin + len) a (omega arith)) (placed_inside len (suc a) bs (omega arith) (omega arith) (omega arith))

-- ---- what is read of a text: it has no fault, and says some bytes from an index on

record Reads (origin len upper : ℕ) (text : List ℕ) (at : ℕ) (bs : List ℕ) : Type 0 where
  done : (n : ℕ) → checked origin len n false upper (lines_of text) ≡ reply Done 0
  bytes : (xs : List ℕ) → puts origin (places_of upper (lines_of text)) xs ≡ sets xs at bs
  marks : (xs : List ℕ) → clears origin (places_of upper (lines_of text)) xs ≡ sets xs at (replicate (length bs) 0)

-- one line
module _ (origin len upper : ℕ) (t : List ℕ) (some : 0 < length t) (begun : begins t ≡ true) (faultless : answer_in (faults_in origin len (begins t) false upper t) ≡ Done) where
  line_done : (n : ℕ) → checked origin len n false upper (lines_of t) ≡ checked origin len (suc n) (is_end t) (upper_after upper t) (lines_of (behind t))
  line_done n = rw (check_line origin len n false upper t some, faultless)

  line_puts : (xs : List ℕ) → puts origin (places_of upper (lines_of t)) xs ≡ puts origin (places_of (upper_after upper t) (lines_of (behind t))) (puts origin (places_in upper t) xs)
  line_puts xs = rw (places_first upper t some begun) (puts_append origin (places_in upper t) (places_of (upper_after upper t) (lines_of (behind t))) xs)

  line_clears : (xs : List ℕ) → clears origin (places_of upper (lines_of t)) xs ≡ clears origin (places_of (upper_after upper t) (lines_of (behind t))) (clears origin (places_in upper t) xs)
  line_clears xs = rw (places_first upper t some begun) (clears_append origin (places_in upper t) (places_of (upper_after upper t) (lines_of (behind t))) xs)

no_fault : (origin len upper : ℕ) (t : List ℕ) (b : Bool) → b ≡ true → bad_count t ≡ false → sum_in t ≡ 0 → bad_type (type_in t) ≡ false → any_beyond origin len (places_in upper t) ≡ false
    → answer_in (faults_in origin len b false upper t) ≡ Done
unfolding faults_in
no_fault origin len upper t b e f g h i = rw (e, f, g, h, i)

module _ (digits : List ℕ) (reads : (n : ℕ) → n < 16 → digit_of (get_or digits n 0) ≡ n) where
  -- the end
  module _ (origin len upper at : ℕ) where
    abbrev end_text : List ℕ
    end_text = line_text digits 1 0 []

    end_type : byte_in end_text 3 ≡ 1
    end_type = line_type digits reads 1 0 [] [] (omega arith) (omega arith) (omega arith) tt

    end_count : count_in end_text ≡ 0
    end_count = line_count digits reads 1 0 [] [] (omega arith) (omega arith) (omega arith) tt

    end_places : places_in upper end_text ≡ []
    unfolding places_in
    end_places = rw end_type

    end_bad_count : bad_count end_text ≡ false
    unfolding bad_count
    end_bad_count = rw (end_type, end_count)

    end_bad_type : bad_type (type_in end_text) ≡ false
    unfolding bad_type
    end_bad_type = rw end_type

    end_beyond : any_beyond origin len (places_in upper end_text) ≡ false
    end_beyond = rw end_places

    end_begins : begins end_text ≡ true
    end_begins = line_begins digits reads 1 0 [] [] (omega arith) (omega arith) (omega arith) tt

    end_behind : behind end_text ≡ []
    end_behind = line_behind digits reads 1 0 [] [] (omega arith) (omega arith) (omega arith) tt

    end_faultless : answer_in (faults_in origin len (begins end_text) false upper end_text) ≡ Done
    end_faultless = no_fault origin len upper end_text (begins end_text) end_begins end_bad_count (line_sum digits reads 1 0 [] [] (omega arith) (omega arith) (omega arith) tt) end_bad_type end_beyond

    reads_end : Reads origin len upper end_text at []
    reads_end =
        record {
          done = λ n. line_done origin len upper end_text (omega arith) end_begins end_faultless n ∙ rw (end_behind, end_type);
          bytes = λ xs. line_puts origin len upper end_text (omega arith) end_begins end_faultless xs ∙ rw (end_behind, end_places);
          marks = λ xs. line_clears origin len upper end_text (omega arith) end_begins end_faultless xs ∙ rw (end_behind, end_places);
        }

  -- a type 04 line
  module _ (origin len upper at u : ℕ) (r bs : List ℕ) (half : u < 65536) where
    abbrev us : List ℕ
    us = u / 256 ∷ u % 256 ∷ []

    us_all : AllBytes us
    us_all = (omega arith, (omega arith, tt))

    abbrev T : List ℕ
    T = line_then digits reads 4 0 us r (omega arith) (omega arith) (omega arith) us_all

    up_type : byte_in T 3 ≡ 4
    up_type = line_type digits reads 4 0 us r (omega arith) (omega arith) (omega arith) us_all

    up_count : count_in T ≡ 2
    up_count = line_count digits reads 4 0 us r (omega arith) (omega arith) (omega arith) us_all

    up_first : byte_in T 4 ≡ u / 256
    up_first = line_data_at digits reads 4 0 us r (omega arith) (omega arith) (omega arith) us_all 0 (omega arith)

    up_second : byte_in T 5 ≡ u % 256
    up_second = line_data_at digits reads 4 0 us r (omega arith) (omega arith) (omega arith) us_all 1 (omega arith)

    up_after : upper_after upper T ≡ u
    unfolding upper_after
    up_after = rw (up_type, up_count, up_first, up_second) (omega arith)

    up_places : places_in upper T ≡ []
    unfolding places_in
    up_places = rw up_type

    up_bad_count : bad_count T ≡ false
    unfolding bad_count
    up_bad_count = rw (up_type, up_count)

    up_bad_type : bad_type (type_in T) ≡ false
    unfolding bad_type
    up_bad_type = rw up_type

    up_beyond : any_beyond origin len (places_in upper T) ≡ false
    up_beyond = rw up_places

    up_begins : begins T ≡ true
    up_begins = line_begins digits reads 4 0 us r (omega arith) (omega arith) (omega arith) us_all

    up_behind : behind T ≡ r
    up_behind = line_behind digits reads 4 0 us r (omega arith) (omega arith) (omega arith) us_all

    up_faultless : answer_in (faults_in origin len (begins T) false upper T) ≡ Done
    up_faultless = no_fault origin len upper T (begins T) up_begins up_bad_count (line_sum digits reads 4 0 us r (omega arith) (omega arith) (omega arith) us_all) up_bad_type up_beyond

    up_reads_then : Reads origin len u r at bs → Reads origin len upper T at bs
    up_reads_then f =
        record {
          done = λ n. line_done origin len upper T (omega arith) up_begins up_faultless n ∙ rw (up_type, up_after, up_behind) (f.done (suc n));
          bytes = λ xs. line_puts origin len upper T (omega arith) up_begins up_faultless xs ∙ rw (up_after, up_behind, up_places) (f.bytes xs);
          marks = λ xs. line_clears origin len upper T (omega arith) up_begins up_faultless xs ∙ rw (up_after, up_behind, up_places) (f.marks xs);
        }

    reads_upper : Reads origin len u r at bs → Reads origin len upper (upper_text digits u ++ r) at bs
    reads_upper f = rw (line_then_lem digits reads 4 0 us r (omega arith) (omega arith) (omega arith) us_all) (up_reads_then f)

  -- a data line
  module _ (origin len a : ℕ) (cs r ds : List ℕ) (few : length cs < 256) (all : AllBytes cs) (starts : origin ≤ a) (ends : a + length cs ≤ origin + len) (low : a + length cs ≤ 4294967296) (below : a < 4294967296) where
    abbrev D : List ℕ
    D = line_then digits reads 0 (a % 65536) cs r (omega arith) (omega arith) few all

    da_type : byte_in D 3 ≡ 0
    da_type = line_type digits reads 0 (a % 65536) cs r (omega arith) (omega arith) few all

    da_count : count_in D ≡ length cs
    da_count = line_count digits reads 0 (a % 65536) cs r (omega arith) (omega arith) few all

    da_after : (upper : ℕ) → upper_after upper D ≡ upper
    unfolding upper_after
    da_after upper = rw da_type

    da_places : places_in (a / 65536) D ≡ placed a cs
    unfolding places_in
    da_places =
        let e : a / 65536 * 65536 + (a % 65536 / 256 * 256 + a % 65536 % 256) ≡ a = omega arith in
        rw (da_type, da_count, line_high digits reads 0 (a % 65536) cs r (omega arith) (omega arith) few all, line_low digits reads 0 (a % 65536) cs r (omega arith) (omega arith) few all, line_data digits reads 0 (a % 65536) cs r (omega arith) (omega arith) few all, e)

    da_bad_count : bad_count D ≡ false
    unfolding bad_count
    da_bad_count = rw da_type

    da_bad_type : bad_type (type_in D) ≡ false
    unfolding bad_type
    da_bad_type = rw da_type

    da_beyond : any_beyond origin len (places_in (a / 65536) D) ≡ false
    da_beyond = rw da_places (placed_inside origin len a cs starts ends low)

    da_begins : begins D ≡ true
    da_begins = line_begins digits reads 0 (a % 65536) cs r (omega arith) (omega arith) few all

    da_behind : behind D ≡ r
    da_behind = line_behind digits reads 0 (a % 65536) cs r (omega arith) (omega arith) few all

    da_faultless : answer_in (faults_in origin len (begins D) false (a / 65536) D) ≡ Done
    da_faultless = no_fault origin len (a / 65536) D (begins D) da_begins da_bad_count (line_sum digits reads 0 (a % 65536) cs r (omega arith) (omega arith) few all) da_bad_type da_beyond

    joined_bytes : (xs : List ℕ) → sets (sets xs (a - origin) cs) (a + length cs - origin) ds ≡ sets xs (a - origin) (cs ++ ds)
    joined_bytes xs =
        let e : a + length cs - origin ≡ a - origin + length cs = omega arith in
        rw e (sets_append xs cs ds (a - origin))

    joined_marks : (xs : List ℕ) → sets (sets xs (a - origin) (replicate (length cs) 0)) (a + length cs - origin) (replicate (length ds) 0) ≡ sets xs (a - origin) (replicate (length (cs ++ ds)) 0)
    joined_marks xs =
        let e : a + length cs - origin ≡ a - origin + length {A = ℕ} (replicate (length cs) 0) = omega (arith, length-replicate {A = ℕ} (length cs) 0) in
        rw (e, sets_append xs (replicate (length cs) 0) (replicate (length ds) 0) (a - origin), replicate-append-replicate {A = ℕ} (length cs) (length ds) 0, length-append cs ds)

    da_reads_then : Reads origin len (a / 65536) r (a + length cs - origin) ds → Reads origin len (a / 65536) D (a - origin) (cs ++ ds)
    da_reads_then f =
        record {
          done = λ n. line_done origin len (a / 65536) D (omega arith) da_begins da_faultless n ∙ rw (da_type, da_after (a / 65536), da_behind) (f.done (suc n));
          bytes = λ xs. line_puts origin len (a / 65536) D (omega arith) da_begins da_faultless xs ∙ rw (da_after (a / 65536), da_behind, da_places, placed_puts origin a cs xs starts low, f.bytes (sets xs (a - origin) cs)) (joined_bytes xs);
          marks = λ xs. line_clears origin len (a / 65536) D (omega arith) da_begins da_faultless xs ∙ rw (da_after (a / 65536), da_behind, da_places, placed_clears origin a cs xs starts low, f.marks (sets xs (a - origin) (replicate (length cs) 0))) (joined_marks xs);
        }

    reads_data : Reads origin len (a / 65536) r (a + length cs - origin) ds → Reads origin len (a / 65536) (line_text digits 0 (a % 65536) cs ++ r) (a - origin) (cs ++ ds)
    reads_data f = rw (line_then_lem digits reads 0 (a % 65536) cs r (omega arith) (omega arith) few all) (da_reads_then f)

  -- ---- all lines

  all_take : (n : ℕ) (bs : List ℕ) → AllBytes bs → AllBytes (take n bs)
  all_take zero bs a = tt
  all_take (suc n) [] a = tt
  all_take (suc n) (b ∷ bs) a = (a.0, all_take n bs a.1)

  all_drop : (n : ℕ) (bs : List ℕ) → AllBytes bs → AllBytes (drop n bs)
  all_drop zero bs a = a
  all_drop (suc n) [] a = tt
  all_drop (suc n) (b ∷ bs) a = all_drop n bs a.1

  -- behind the upper half that stands already, or behind a type 04 line
  choose : (origin len upper previous a at : ℕ) (r bs : List ℕ) → a < 4294967296 → (previous < 65536 → previous ≡ upper) → Reads origin len (a / 65536) r at bs
      → (b : Bool) → eqb previous (a / 65536) ≡ b → Reads origin len upper (pick b [] (upper_text digits (a / 65536)) ++ r) at bs
  choose origin len upper previous a at r bs l same f true e =
      let p : previous ≡ a / 65536 = eqb-true _ _ e in
      let q : previous ≡ upper = same (omega arith) in
      rw (sym q ∙ p) f
  choose origin len upper previous a at r bs l same f false e = reads_upper origin len upper at (a / 65536) r bs (omega arith) f

  module _ (origin len : ℕ) where
    all_read : (n upper previous a : ℕ) (bs : List ℕ) → length bs ≤ n → AllBytes bs → (previous < 65536 → previous ≡ upper) → origin ≤ a → a + length bs ≤ origin + len → a + length bs ≤ 4294967296
        → Reads origin len upper (data_text digits n previous a bs) (a - origin) bs
    all_read zero upper previous a [] few all same h l m = reads_end origin len upper (a - origin)
    all_read zero upper previous a (b ∷ bs) few all same h l m = absurd (omega arith)
    all_read (suc n) upper previous a [] few all same h l m = reads_end origin len upper (a - origin)
    all_read (suc n) upper previous a (b ∷ bs) few all same h l m =
        let c = take 16 (b ∷ bs) in
        let d = drop 16 (b ∷ bs) in
        let parts : length c + length d ≡ length (b ∷ bs) = sym (length-append c d) ∙ ap length (take-append-drop 16 (b ∷ bs)) in
        let small : length c ≤ 16 = omega (arith, length-take 16 (b ∷ bs)) in
        let less : length d ≤ n = omega (arith, length-drop 16 (b ∷ bs)) in
        let rest = all_read n (a / 65536) (a / 65536) (a + length c) d less (all_drop 16 (b ∷ bs) all) (λ g. refl) (omega arith) (omega arith) (omega arith) in
        let here = reads_data origin len a c (data_text digits n (a / 65536) (a + length c) d) d (omega arith) (all_take 16 (b ∷ bs) all) h (omega arith) (omega arith) (omega arith) rest in
        let whole = rw (take-append-drop 16 (b ∷ bs)) at here in
        choose origin len upper previous a (a - origin) (line_text digits 0 (a % 65536) c ++ data_text digits n (a / 65536) (a + length c) d) (b ∷ bs) (omega arith) same whole (eqb previous (a / 65536)) refl

  -- an image below 2^32, written, and imported into a window that holds it, leaves exactly its bytes, untainted
  module _ (w : Window) (start : ℕ) (bytes memory taint : List ℕ) (good : bad_window w (length memory) (length taint) 0 ≡ false) (all : AllBytes bytes)
      (starts : w.origin ≤ start) (ends : start + length bytes ≤ w.origin + length memory) (low : start + length bytes ≤ 2 ^ 32) where
    read : Reads w.origin (length memory) 0 (hex_of digits start bytes) (start - w.origin) bytes
    unfolding hex_of
    read = all_read w.origin (length memory) (length bytes) 0 65536 start bytes (omega arith) all (λ h. absurd (omega arith)) starts ends low

    back_reply : reply_of w (length memory) (length taint) (hex_of digits start bytes) ≡ reply Done 0
    unfolding reply_of
    back_reply = rw good (read.done 1)

    pub import_back : import_of w (hex_of digits start bytes) memory taint ≡ outcome (reply Done 0) (sets memory (start - w.origin) bytes) (sets taint (start - w.origin) (replicate (length bytes) 0))
    unfolding import_of
    import_back = rw (back_reply, read.bytes memory, read.marks taint)

-- the digits of either case are read back
upper_test : ℕ → Bool
upper_test n = eqb (digit_of (get_or upper_digits n 0)) n

pub upper_read : (n : ℕ) → n < 16 → digit_of (get_or upper_digits n 0) ≡ n
unfolding digit_of upper_test
upper_read n h = eqb-true _ _ (tested 16 upper_test refl n h)

lower_test : ℕ → Bool
lower_test n = eqb (digit_of (get_or lower_digits n 0)) n

pub lower_read : (n : ℕ) → n < 16 → digit_of (get_or lower_digits n 0) ≡ n
unfolding digit_of lower_test
lower_read n h = eqb-true _ _ (tested 16 lower_test refl n h)
