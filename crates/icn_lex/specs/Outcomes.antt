-- What each function of the scanner answers.
use Rattle.std.specs.Prelude.{◌≡◌, ◌≤◌, ◌<◌, ℕ, zero, Bool, false, not, ◌&&◌, List, [], ◌∷◌, ◌++◌, length, Option, Some, None, Result, Ok, Err, Vec}
use Rattle.std.specs.Option.{option_map}
use Rattle.icn_tree.specs.declared.lines.SourceLine.{SourceLine}
use Rattle.icn_tree.specs.declared.rule.Rule.{Rule}
use Rattle.icn_tree.specs.declared.token.Kind.{Kind}
use Rattle.icn_tree.specs.declared.token.Token.{Token}
use Rattle.icn_tree.specs.Characters.{is_space, begins_comment, is_quote}
use Rattle.icn_tree.specs.Literals.{OpenLiteral}
use Rattle.icn_tree.specs.Semicolons.{LineToken, with_semicolons}
use Rattle.icn_tree.specs.Tokens.{Scan, Found, Broken, Tokenized, Scanned, Fault, Between, Inside as InsideLiteral, bytes_from, closed_then, before}
use Rattle.icn_lex.specs.Literals.{Later, literal_of}
use Rattle.icn_lex.specs.declared.fault.LexFault.{LexFault}
use Rattle.icn_lex.specs.declared.fault.LexFault.TheVariants.{Broken as BrokenFault, NoMemory}
use Rattle.icn_lex.specs.declared.literals.OpenLiteral.{OpenLiteral as LiteralRead}
use Rattle.icn_lex.specs.declared.literals.LiteralEnd.{LiteralEnd}
use Rattle.icn_lex.specs.declared.literals.LiteralEnd.TheVariants.{Closed as ClosedPart, Continued as ContinuedPart}
use Rattle.icn_lex.specs.declared.literals.Step.{Step}
use Rattle.icn_lex.specs.declared.literals.Step.TheVariants.{Closed, Continued, More}
use Rattle.icn_lex.specs.declared.scanner.Next.{Next}
use Rattle.icn_lex.specs.declared.scanner.Next.TheVariants.{Behind, Inside}

-- the outcome that an answer tells: none where memory ran out
abbrev pub outcome_of : {Z : Type 0} → Result (Vec Token Z) LexFault → Option Tokenized
outcome_of (Ok tokens) = Some (Scanned tokens.items)
outcome_of (Err (BrokenFault rule file line)) = Some (Fault rule file line)
outcome_of (Err NoMemory) = None

-- the first token of the rest of a line is this, or breaks this rule there
abbrev pub FirstIs : SourceLine → Result (Kind × ℕ) LexFault → Result (Kind × ℕ) Rule → Type 0
FirstIs line (Ok first) found = found ≡ Ok first
FirstIs line (Err NoMemory) found = Unit {0}
FirstIs line (Err (BrokenFault rule file number)) found =
    (found ≡ Err rule) × (file ≡ line.file) × (number ≡ line.number)

-- a fault is the one that stands here
abbrev pub FaultIs : LexFault → Scan → Type 0
FaultIs NoMemory here = Unit {0}
FaultIs (BrokenFault rule file line) here = here ≡ Broken rule line file

-- a step inside a literal leads from the one place to the other, whatever lines follow
abbrev pub StepIs : SourceLine → Result Step LexFault → OpenLiteral → (Later → Scan) → Type 0
StepIs line (Ok (Closed behind)) literal here =
    (later : Later) → here later ≡ closed_then literal (bytes_from later line (Between false) zero behind.now)
StepIs line (Ok Continued) literal here = (later : Later) → here later ≡ later (Some literal)
StepIs line (Ok (More behind)) literal here =
    (later : Later) → here later ≡ bytes_from later line (InsideLiteral literal) zero behind.now
StepIs line (Err fault) literal here = (later : Later) → FaultIs fault (here later)

-- no more bytes are left of the line than there were
abbrev pub IsNoLonger : Result Step LexFault → List ℕ → Type 0
IsNoLonger (Ok (More behind)) text = length behind.now ≤ length text
IsNoLonger (Ok (Closed behind)) text = length behind.now ≤ length text
IsNoLonger (Ok Continued) text = Unit {0}
IsNoLonger (Err fault) text = Unit {0}

-- a part of a literal up to its closing quote, or up to the end of a line that continues it; or the rule it breaks
abbrev pub PartIs : SourceLine → Result LiteralEnd LexFault → OpenLiteral → (Later → Scan) → Type 0
PartIs line (Ok (ClosedPart behind)) literal here =
    (later : Later) → here later ≡ closed_then literal (bytes_from later line (Between false) zero behind.now)
PartIs line (Ok ContinuedPart) literal here = (later : Later) → here later ≡ later (Some literal)
PartIs line (Err fault) literal here = (later : Later) → FaultIs fault (here later)

-- the token of a closed literal, which may be too long
abbrev pub ClosesAs : Result Token LexFault → OpenLiteral → Type 0
ClosesAs (Ok token) literal = (later : Scan)
    → closed_then literal later ≡ before (record { token = token; is_first = literal.is_first }) later
ClosesAs (Err fault) literal = (later : Scan) → FaultIs fault (closed_then literal later)

-- these tokens stand before those that are found; a broken rule stays as it is
abbrev pub all_before : List LineToken → Scan → Scan
all_before pieces (Found more) = Found (pieces ++ more)
all_before pieces (Broken rule line file) = Broken rule line file

-- the tokens found so far, in front of what stands here, are all
pub record Reads (all : Scan) (found : List Token) (here : Scan) : Type 0 where
  pub done : List LineToken
  pub separated : found ≡ with_semicolons done
  pub reads : all_before done here ≡ all

-- an open literal as the definitions see it
abbrev pub literal_read : LiteralRead → OpenLiteral
literal_read literal = literal_of literal.opening literal.bytes.items

-- what was added leads from the one place to the other, whatever lines follow
abbrev pub NextAt : SourceLine → Later → Scan → List Token → Result Next LexFault → Type 0
NextAt line later all found (Ok (Behind rest)) =
    Reads all found (bytes_from later line (Between false) zero rest.now)
NextAt line later all found (Ok (Inside literal)) = Reads all found (later (Some (literal_read literal)))
NextAt line later all found (Err fault) = FaultIs fault all

-- a part of a line is read right, whatever the later lines give
abbrev pub NextIs : SourceLine → List Token → List Token → (Later → Scan) → Result Next LexFault → Type 0
NextIs line old new here result =
    (later : Later) (all : Scan) → Reads all old (here later) → NextAt line later all new result

-- what a line answers: the literal that is open at its end, if any, or the fault of the whole
abbrev pub LineAt : Later → Scan → List Token → Result (Option LiteralRead) LexFault → Type 0
LineAt later all found (Ok begun) = Reads all found (later (option_map literal_read begun))
LineAt later all found (Err fault) = FaultIs fault all

-- a line is read right, whatever the later lines give
abbrev pub LineIs : List Token → List Token → (Later → Scan) → Result (Option LiteralRead) LexFault → Type 0
LineIs old new here result =
    (later : Later) (all : Scan) → Reads all old (here later) → LineAt later all new result

-- fewer bytes are left of the line than there were
abbrev pub ShortensTo : Result Next LexFault → List ℕ → Type 0
ShortensTo (Ok (Behind rest)) text = length rest.now < length text
ShortensTo (Ok (Inside literal)) text = Unit {0}
ShortensTo (Err fault) text = Unit {0}

-- no more bytes are left of the line than there were
abbrev pub IsNoLongerNext : Result Next LexFault → List ℕ → Type 0
IsNoLongerNext (Ok (Behind rest)) text = length rest.now ≤ length text
IsNoLongerNext (Ok (Inside literal)) text = Unit {0}
IsNoLongerNext (Err fault) text = Unit {0}

-- what is left behind a closing quote is no longer than the text that was read
abbrev pub IsNoLongerPart : Result LiteralEnd LexFault → List ℕ → Type 0
IsNoLongerPart (Ok (ClosedPart rest)) text = length rest.now ≤ length text
IsNoLongerPart (Ok ContinuedPart) text = Unit {0}
IsNoLongerPart (Err fault) text = Unit {0}

-- the first byte is no white space, and begins no comment and no literal
abbrev pub begins_bare : List ℕ → Bool
begins_bare [] = false
begins_bare (b ∷ rest) = not (is_space b) && not (begins_comment b) && not (is_quote b)
