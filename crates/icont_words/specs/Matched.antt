-- What the matches of `clap` hold, and how the code keeps what is said.
use Rattle.std.specs.Prelude.{◌≡◌, ℕ, List, [], ◌∷◌, map, codes, string_bytes, Option, None, Some, if◌then◌else◌, Result, Ok, Err}
use Rattle.std.specs.Borrow.{Bor}
use Rattle.std.specs.Option.{option_map}
use Rattle.clap.specs.Words.{Row, all_of, first_of, found_of, one_of, rows_of}
use Rattle.clap.specs.declared.parser.matches.ArgMatches.{ArgMatches}
use Rattle.icont_words.specs.declared.order.Order.{Order as OrderHeld}
use Rattle.icont_words.specs.declared.words.WordsFault.{WordsFault}
use Rattle.icont_words.specs.declared.words.WordsFault.TheVariants.{Faulty, NoMemory}
use Rattle.icont_words.specs.Words.{Piece, Image, Turns, Number, Order, Says, AreSaidOnce, first, has_units, names_said, own_words, values}
use Rattle.icn_text.specs.WordTexts.{texts}

-- an argument that was not used has no values
abbrev pub values_found : List (List ℕ) → Option (List (List ℕ))
values_found [] = None
values_found (value ∷ values) = Some (value ∷ values)

-- the rows of the matches hold what these pieces say
pub record Holds (rows : List Row) (pieces : List Piece) : Type 0 where
  pub units : one_of (codes "units") rows ≡ Some (if has_units pieces then codes "true" else codes "false")
  pub image : first_of (codes "image") rows ≡ first (values Image pieces)
  pub turns : first_of (codes "turns") rows ≡ first (values Turns pieces)
  pub number : first_of (codes "number") rows ≡ first (values Number pieces)
  pub names : all_of (codes "file") rows ≡ values_found (names_said pieces)

-- the words behind the program's name say these pieces, each as often as it may be said
pub record AreMeant (words : List (List ℕ)) (pieces : List Piece) : Type 0 where
  pub said : Says (own_words words) pieces
  pub once : AreSaidOnce pieces

-- The words say pieces, which the matches hold; or they say none, or memory was wanting.
abbrev pub IsMatched : List (List ℕ) → Result ArgMatches WordsFault → Type 0
IsMatched words (Ok matches) =
    (pieces : List Piece) × AreMeant words pieces × Holds (rows_of (found_of matches)) pieces
IsMatched words (Err (Faulty kind)) = (kind ≡ 1) × ((pieces : List Piece) → AreMeant words pieces → ⊥)
IsMatched words (Err NoMemory) = Unit {0}

-- a text that is borrowed, if there is one
abbrev pub text_of : Option (Bor (List ℕ)) → Option (List ℕ)
text_of text = option_map (λ t. t.now) text

-- an order, as definitions see it
abbrev pub order_seen : OrderHeld → Order
order_seen order = record {
  units = order.units;
  image = text_of order.image;
  turns = text_of order.turns;
  number = text_of order.number;
  names = texts order.names.items;
  run = option_map (λ words. map string_bytes words.now) order.run;
}
