-- 01's example of a listing, and a line that is as long as any, by computing. Assumes nothing.
use Prim.Native.Nat.{suc}
use mathlib.Core.Path.{◌≡◌, refl}
use lib.ListN.{length}
use Rattle.bits.specs.Fields.{part}
use Rattle.bits.specs.Signed.{signed_of}
use Rattle.instruction.specs.Undefined.{undefined_size, undefined_prefetch, undefined_option}
use Rattle.instruction.specs.Unpredictable.{base_is, over_base}
use Rattle.instruction.specs.Operands.{sized_in, signed_in, index_in}
use Rattle.instruction.specs.Table.{in_set, row_of, undefined, allocated, unpredictable, instruction_of}
use Rattle.instruction.specs.Operations.{sized_at}
use Rattle.decoder.specs.Decoding.{class_of}
use Rattle.ascii.specs.Ascii.{dec, signed_dec}
use Rattle.text.specs.Hints.{hint_text}
use Rattle.text.specs.Texts.{register_text, base_text, offset_tail, post_tail, extend_name, amount_text, extend_text, index_tail, front_text, sized_text, text_of, word_text}
use Rattle.listing.specs.Listing.{hex_digit, hex4, hex8, content_text, answer_text, line_text, short_text, line_most, word_of, listing_of}
use Rattle.listing.specs.Examples.{example_bytes, example_lines}

pub listing_example : listing_of example_bytes ≡ example_lines
unfolding line_text hex_digit hex4 hex8 content_text answer_text short_text word_of word_text text_of register_text base_text offset_tail post_tail front_text sized_text dec signed_dec instruction_of row_of part signed_of sized_at sized_in signed_in class_of in_set allocated undefined undefined_size undefined_prefetch unpredictable base_is over_base
listing_example = refl

-- prfm pldl1keep, [x10, w10, uxtw #3]
pub line_reached : length (line_text 0xf8aa5940) ≡ suc line_most
unfolding line_text hex_digit hex4 hex8 content_text answer_text word_text text_of hint_text register_text base_text extend_name amount_text extend_text index_tail front_text sized_text dec instruction_of row_of part sized_at sized_in index_in class_of in_set allocated undefined undefined_size undefined_option
line_reached = refl
