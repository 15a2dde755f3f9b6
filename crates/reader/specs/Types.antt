-- The declared types and their cases under one roof, for the definitions and proofs that speak of them.
pub use Rattle.instruction.specs.declared.answer.Answer.{Answer}
pub use Rattle.instruction.specs.declared.answer.Answer.TheVariants.{Done, NoSuchText}
pub use Rattle.instruction.specs.declared.operation.SizedOp.{SizedOp}
pub use Rattle.instruction.specs.declared.operation.SizedOp.TheVariants.{StoreByte, LoadByte, LoadSignedByte64, LoadSignedByte32, StoreHalf, LoadHalf, LoadSignedHalf64, LoadSignedHalf32, StoreWord, LoadWord, LoadSignedWord64, StoreDouble, LoadDouble, Prefetch}
pub use Rattle.instruction.specs.declared.operation.LiteralOp.{LiteralOp}
pub use Rattle.instruction.specs.declared.operation.LiteralOp.TheVariants.{LiteralWord, LiteralDouble, LiteralSignedWord, LiteralPrefetch, LiteralVectorWord, LiteralVectorDouble, LiteralVectorQuad}
pub use Rattle.instruction.specs.declared.operation.PairOp.{PairOp}
pub use Rattle.instruction.specs.declared.operation.PairOp.TheVariants.{StoreWords, LoadWords, LoadSignedWords, StoreDoubles, LoadDoubles}
pub use Rattle.instruction.specs.declared.operation.PairMode.{PairMode}
pub use Rattle.instruction.specs.declared.operation.PairMode.TheVariants.{NoAllocate, Post, Offset, Pre}
pub use Rattle.instruction.specs.declared.exclusive.AccessSize.{AccessSize}
pub use Rattle.instruction.specs.declared.exclusive.AccessSize.TheVariants.{Byte, Half, Word, Double}
pub use Rattle.instruction.specs.declared.exclusive.ExclusiveOp.{ExclusiveOp}
pub use Rattle.instruction.specs.declared.exclusive.StoreExclusiveOp.{StoreExclusiveOp}
pub use Rattle.instruction.specs.declared.family.Instruction.{Instruction}
pub use Rattle.instruction.specs.declared.family.Family.{Family}
pub use Rattle.instruction.specs.declared.family.Family.TheVariants.{Empty, Literal, Pair, Ordered, Unscaled, PostIndex, PreIndex, Register, Unsigned, Exclusive, StoreExclusive}
pub use Rattle.instruction.specs.declared.family.LiteralOperands.{LiteralOperands}
pub use Rattle.instruction.specs.declared.family.PairOperands.{PairOperands}
pub use Rattle.instruction.specs.declared.family.OffsetOperands.{OffsetOperands}
pub use Rattle.instruction.specs.declared.family.IndexOperands.{IndexOperands}
pub use Rattle.instruction.specs.declared.family.ExclusiveOperands.{ExclusiveOperands}
pub use Rattle.instruction.specs.declared.family.StoreExclusiveOperands.{StoreExclusiveOperands}
pub use Rattle.reader.specs.route.Scanned.{Scan}
pub use Rattle.mnemonic.specs.declared.Stem.{Stem}
pub use Rattle.mnemonic.specs.declared.names.Name.{Name}
pub use Rattle.reader.specs.declared.tail.Tail.{Tail}
pub use Rattle.reader.specs.declared.tail.Tail.TheVariants.{AtOffset, Before, After, Indexed}
