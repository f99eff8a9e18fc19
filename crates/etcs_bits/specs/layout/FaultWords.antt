-- A fault in words, as the program prints it. The words are this project's.
use Rattle.std.specs.Prelude.{◌++◌, ℕ, List, codes, decimal}
use Rattle.etcs_bits.specs.declared.layout.fault.Fault.{Fault}
use Rattle.etcs_bits.specs.declared.layout.fault.FaultKind.{FaultKind}
use Rattle.etcs_bits.specs.declared.layout.fault.FaultKind.TheVariants as kinds

-- the kind of a fault, in words
abbrev pub kind_words : FaultKind → List ℕ
kind_words kinds.Short = codes "short"
kind_words kinds.Spare = codes "spare"
kind_words kinds.Length = codes "length"
kind_words kinds.NoEnd = codes "no end"
kind_words kinds.Version = codes "version"
kind_words kinds.Loop = codes "loop"
kind_words kinds.Downlink = codes "down-link"
kind_words kinds.MessageKind = codes "message kind"
kind_words kinds.NoAuthority = codes "no authority"
kind_words kinds.NoReport = codes "no report"

-- the kind of a fault, the place where its field begins, and how many bits decide it
abbrev pub fault_words : Fault → List ℕ
fault_words fault = kind_words fault.why
    ++ (codes " at " ++ (decimal fault.at ++ (codes " end " ++ decimal fault.end)))
