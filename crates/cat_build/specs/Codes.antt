-- The codes of refusals, and which faults have which.
use Rattle.std.specs.Prelude.{ℕ}
use Rattle.cat_names.specs.declared.fault.Fault.{Fault}
use Rattle.cat_names.specs.declared.fault.Fault.TheVariants as fault
use Rattle.cat_except.specs.declared.refusal.ExceptRefusal.{ExceptRefusal}
use Rattle.cat_except.specs.declared.refusal.ExceptRefusal.TheVariants as exception
use Rattle.cat_build.specs.declared.code.FaultCode.{FaultCode}
use Rattle.cat_build.specs.declared.code.FaultCode.TheVariants as code
use Rattle.cat_build.specs.declared.code.BuildRefusal.{BuildRefusal}
use Rattle.cat_build.specs.declared.code.BuildRefusal.TheVariants.{Refused, Memory}

-- the number by which replies name a code
abbrev pub number_of : FaultCode → ℕ
number_of code.NoToken = 4
number_of code.LiteralRange = 5
number_of code.Unexpected = 6
number_of code.TooDeep = 7
number_of code.NameTwice = 8
number_of code.NameUnknown = 9
number_of code.TypeMismatch = 10
number_of code.MatchCases = 11
number_of code.LabelUnknown = 12
number_of code.LabelSplit = 13
number_of code.ExceptionAmbiguous = 14
number_of code.ExceptionCycle = 15
number_of code.VariableCycle = 16
number_of code.ScopeCycle = 17
number_of code.TypeCycle = 18
number_of code.Misplaced = 19
number_of code.TooMany = 20

-- the refusal that a fault against a tree is
abbrev pub refusal_of : Fault → BuildRefusal
refusal_of (fault.NameTwice p) = Refused code.NameTwice p
refusal_of (fault.NameUnknown p) = Refused code.NameUnknown p
refusal_of (fault.TypeMismatch p) = Refused code.TypeMismatch p
refusal_of (fault.MatchCases p) = Refused code.MatchCases p
refusal_of (fault.VariableCycle p) = Refused code.VariableCycle p
refusal_of (fault.ScopeCycle p) = Refused code.ScopeCycle p
refusal_of (fault.TypeCycle p) = Refused code.TypeCycle p
refusal_of (fault.Misplaced p) = Refused code.Misplaced p
refusal_of (fault.TooMany p) = Refused code.TooMany p

-- the refusal that one of a scope's exceptions is
abbrev pub exception_refusal : ExceptRefusal → BuildRefusal
exception_refusal (exception.LabelUnknown p) = Refused code.LabelUnknown p
exception_refusal (exception.LabelSplit p) = Refused code.LabelSplit p
exception_refusal (exception.ExceptionAmbiguous p) = Refused code.ExceptionAmbiguous p
exception_refusal (exception.ExceptionCycle p) = Refused code.ExceptionCycle p
exception_refusal (exception.TooMany p) = Refused code.TooMany p
exception_refusal exception.Memory = Memory
