-- The starred examples hold, by computing. Assumes nothing.
use mathlib.Core.Path.{refl}
use Rattle.bits.specs.Fields.{part}
use Rattle.bits.specs.Signed.{signed_of}
use Rattle.instruction.specs.Undefined.{undefined_size, undefined_prefetch, undefined_option, undefined_literal, undefined_pair, undefined_second, undefined_unused}
use Rattle.instruction.specs.Unpredictable.{base_is, over_base, unpredictable_pair, unpredictable_status}
use Rattle.instruction.specs.Operands.{sized_in, literal_op_in, literal_in, pair_op_in, pair_in, signed_in, index_in, unsigned_in, exclusive_op_in, store_exclusive_op_in, exclusive_in, store_exclusive_in}
use Rattle.instruction.specs.Table.{in_set, row_of, undefined, allocated, unpredictable, instruction_of}
use Rattle.instruction.specs.Operations.{sized_at, literal_at, pair_at, mode_at, exclusive_at, store_exclusive_at, size_at}
use Rattle.decoder.specs.Decoding.{class_of}
use Rattle.ascii.specs.Ascii.{dec, signed_dec}
use Rattle.text.specs.Hints.{hint_text}
use Rattle.text.specs.Texts.{register_text, base_text, offset_tail, pre_tail, post_tail, extend_name, amount_text, extend_text, index_tail, front_text, literal_text, pair_text, sized_text, exclusive_text, store_exclusive_text, text_of, word_text}
use Rattle.text.specs.Examples.{Holds, examples}

pub starred_examples : Holds examples
unfolding word_text text_of hint_text register_text base_text offset_tail pre_tail post_tail extend_name amount_text extend_text index_tail front_text literal_text pair_text sized_text dec signed_dec instruction_of row_of part signed_of sized_at literal_at pair_at mode_at sized_in literal_op_in literal_in pair_op_in pair_in signed_in index_in unsigned_in class_of in_set allocated undefined undefined_size undefined_prefetch undefined_option undefined_literal undefined_pair unpredictable base_is over_base unpredictable_pair
    exclusive_text store_exclusive_text exclusive_at store_exclusive_at size_at exclusive_op_in store_exclusive_op_in exclusive_in store_exclusive_in undefined_second undefined_unused unpredictable_status
starred_examples = (refl, refl, (refl, refl, (refl, refl, (refl, refl, (refl, refl, (refl, refl, (refl, refl, (refl, refl, (refl, refl, (refl, refl, (refl, refl, (refl, refl, (refl, refl, (refl, refl, (refl, refl, (refl, refl, (refl, refl, (refl, refl, (refl, refl, (refl, refl, (refl, refl, (refl, refl, (refl, (refl, (refl, (refl, (refl, (refl, (refl, (refl, (refl, (refl, (refl, (refl, tt))))))))))))))))))))))))))))))))))
