-- The line of each answer.
use Rattle.std.specs.Prelude.{ℕ, List, [], ◌++◌, codes, decimal, take}
use Rattle.icn_tree.specs.declared.rule.Rule.{Rule}
use Rattle.icn_tree.specs.Rules.{rule_text}
use Rattle.icn_answer.specs.declared.answer.Answer.{Answer}
use Rattle.icn_answer.specs.declared.answer.Answer.TheVariants.{Wrote, Ran, Refused, Command, Missing, BadUcode, BadImage, FileFault, ReadFault, WriteFault, NoMemory}

-- the code of a rule
abbrev pub rule_code : Rule → List ℕ
rule_code rule = take 2 (rule_text rule)

-- the line of an answer that says what failed outside
abbrev pub fault_line : Answer → List ℕ
fault_line Wrote = []
fault_line (Ran ending) = []
fault_line (Refused file line rule) = []
fault_line (Command kind) = []
fault_line (Missing name) = []
fault_line (BadUcode name rule) = []
fault_line (BadImage rule) = []
fault_line FileFault = codes "file fault\n"
fault_line ReadFault = codes "read fault\n"
fault_line WriteFault = []
fault_line NoMemory = codes "no memory\n"

-- The line that a program with this usage line puts on its error output, where the image has this name. A run has its reports in place of a line.
abbrev pub line_of : List ℕ → List ℕ → Answer → List ℕ
line_of usage name Wrote = []
line_of usage name (Ran ending) = []
line_of usage name (Refused file line rule) =
    file ++ codes ":" ++ decimal line ++ codes ": " ++ rule_text rule ++ codes "\n"
line_of usage name (Command kind) = usage
line_of usage name (Missing other) = other ++ codes ": not there\n"
line_of usage name (BadUcode other rule) = other ++ codes ": bad ucode, " ++ rule_code rule ++ codes "\n"
line_of usage name (BadImage rule) = name ++ codes ": bad image, " ++ rule_code rule ++ codes "\n"
line_of usage name FileFault = fault_line FileFault
line_of usage name ReadFault = fault_line ReadFault
line_of usage name WriteFault = fault_line WriteFault
line_of usage name NoMemory = fault_line NoMemory
