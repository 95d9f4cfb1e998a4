-- The exit status of each way to end.
use Rattle.std.specs.Prelude.{ℕ}
use Rattle.cat_app.specs.declared.status.Status.{Status}
use Rattle.cat_app.specs.declared.status.Status.TheVariants.{Fine, Conflict, NoValue, Fault, Source, Input, Found}
use Rattle.cat_app.specs.declared.status.Status.TheVariants.{Unsettled, Certificate, Usage, Missing, ReadFault}
use Rattle.cat_app.specs.declared.status.Status.TheVariants.{WriteFault, Memory, TooLarge, Listing}

-- the number that the program ends with
abbrev pub code_of : Status → ℕ
code_of Fine = 0
code_of Conflict = 1
code_of NoValue = 2
code_of Fault = 3
code_of Source = 4
code_of Input = 5
code_of Found = 6
code_of Unsettled = 7
code_of Certificate = 8
code_of Usage = 9
code_of Missing = 10
code_of ReadFault = 11
code_of WriteFault = 12
code_of Memory = 13
code_of TooLarge = 14
code_of Listing = 15
