-- How refusals are written (docs/LANGUAGE.md, Refusals).
use Rattle.std.specs.Prelude.{ℕ, List, [], ◌++◌, Option, Some, None, codes}
use Rattle.std.specs.Fmt.{decimal}
use Rattle.cq_binder_rules.specs.declared.fault.Fault.{Fault}
use Rattle.cq_binder_rules.specs.declared.fault.Fault.TheVariants as faults

-- the number of a refusal and its text, before the number of a record where it names one
abbrev pub fault_words : Fault → List ℕ
fault_words faults.Memory = codes "1 out of memory"
fault_words faults.SourceFailed = codes "3 source failed"
fault_words faults.NotUtf8 = codes "9 script not UTF-8"
fault_words faults.Syntax = codes "10 syntax"
fault_words faults.UnknownTable = codes "11 unknown table or view"
fault_words faults.UnknownColumn = codes "12 unknown column"
fault_words faults.AmbiguousColumn = codes "13 ambiguous column"
fault_words faults.NameTaken = codes "14 name taken"
fault_words faults.TypeMismatch = codes "15 type mismatch"
fault_words faults.AggregateMisplaced = codes "16 aggregate misplaced or column not grouped"
fault_words faults.TooWide = codes "17 expression too wide"
fault_words faults.TooManyTables = codes "18 over 4 base tables"
fault_words faults.NumberOutside = codes "19 number outside 64 bits"
fault_words faults.NullNotAllowed = codes "20 NULL in a NOT NULL column"
fault_words faults.TableFull = codes "21 table full"
fault_words faults.TableInUse = codes "22 table used by a view"
fault_words faults.ViewNotWritten = codes "23 views are not written"
fault_words faults.TextTooLong = codes "24 text too long"
fault_words faults.BadDate = codes "25 bad date"
fault_words (faults.BadRecord n) = codes "26 bad CSV record "
fault_words faults.SumOutOfRange = codes "27 sum beyond 128 bits"
fault_words faults.ClauseInView = codes "28 clause not allowed in a view"
fault_words faults.LimitExceeded = codes "29 limit exceeded"

-- the record that a refusal names, counted from 1
abbrev pub record_of : Fault → Option ℕ
record_of (faults.BadRecord n) = Some n
record_of f = None

-- a number where there is one
abbrev pub number_text : Option ℕ → List ℕ
number_text None = []
number_text (Some n) = decimal n

-- the number of a refusal and its text
abbrev pub fault_text : Fault → List ℕ
fault_text f = fault_words f ++ number_text (record_of f)
