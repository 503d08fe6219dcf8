-- 01, 'Refusal numbers': the number of each refusal.
use Rattle.std.specs.Prelude.{ℕ}
use Rattle.format.specs.declared.refusal.Refusal.{Refusal}
use Rattle.format.specs.declared.refusal.Refusal.TheVariants.{OverBound, ShortTable, Cut, Stray, OutOfRange, TooFew, WrongKind, Negative, EmptyRegister, Unbalanced, DepthNotOne, NoRows, NoStack, NoMarks, TooLong, Unsound, UnderMark, NoBlock, Uneven, NoWord}

abbrev pub number_of : Refusal → ℕ
number_of OverBound = 1
number_of ShortTable = 2
number_of Cut = 3
number_of Stray = 4
number_of OutOfRange = 5
number_of TooFew = 6
number_of WrongKind = 7
number_of Negative = 8
number_of EmptyRegister = 9
number_of Unbalanced = 10
number_of DepthNotOne = 11
number_of NoRows = 12
number_of NoStack = 13
number_of NoMarks = 14
number_of TooLong = 15
number_of Unsound = 16
number_of UnderMark = 17
number_of NoBlock = 18
number_of Uneven = 19
number_of NoWord = 20
