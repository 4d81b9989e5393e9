-- Patterns of LIKE whose signs mostly stand for themselves.
use Rattle.std.specs.Prelude.{◌≡◌, ℕ, ◌==◌, ◌&&◌, ◌||◌, ◌++◌, ◌∷◌, [], Bool, true, not, List, All, length, map, take, drop, ◌+◌, ◌<◌, Option, Some, None, slice_get, slice_index_or}
use Rattle.std.specs.List.{list_all, range_with_len}
use Rattle.std.specs.Simd.Lanes.{mask_l}
use Rattle.std.specs.Str.{chars, IsUtf8}
use Rattle.memchr.specs.Find.{FindsNeedle, OccursAt}
use Rattle.cq_model.specs.Like.{percent, underscore, like}
use Rattle.cq_prims_like.specs.declared.around.Around.{Around as RunAndSigns}
use Rattle.cq_prims_like.specs.declared.pattern.PatternForm.{PatternForm}
use Rattle.cq_prims_like.specs.declared.pattern.PatternForm.TheVariants.{Whole, Prefix, Suffix, Infix, Pieces, Around, Having, Other}

-- neither '%' nor '_'
abbrev pub stands_for_itself : ℕ → Bool
stands_for_itself sign = not (sign == percent) && not (sign == underscore)

-- each sign of a pattern stands for itself
abbrev pub is_ordinary : List ℕ → Bool
is_ordinary signs = list_all stands_for_itself signs

-- signs of the pattern that stand one after the other, each for itself
pub record IsRunOf (run pattern : List ℕ) : Type 0 where
  pub text : IsUtf8 run
  pub ordinary : is_ordinary (chars run) ≡ true
  pub front : List ℕ
  pub rest : List ℕ
  pub there : pattern ≡ front ++ (run ++ rest)

-- each piece, and a '%' behind it
abbrev pub closed : List (List ℕ) → List ℕ
closed [] = []
closed (piece ∷ pieces) = piece ++ percent ∷ closed pieces

-- a text whose signs stand for themselves
abbrev pub IsPiece : List ℕ → Type 0
IsPiece piece = IsUtf8 piece × (is_ordinary (chars piece) ≡ true)

-- the pattern is a '%', and then each piece with a '%' behind it
abbrev pub ArePiecesOf : List (List ℕ) → List ℕ → Type 0
ArePiecesOf pieces pattern = (pattern ≡ percent ∷ closed pieces) × All IsPiece pieces

-- the pieces stand in the text one behind the other
abbrev pub StandIn : List (List ℕ) → List ℕ → Type 0
StandIn [] text = Unit {0}
StandIn (piece ∷ pieces) text = (front : List ℕ) × (rest : List ℕ) × (text ≡ front ++ (piece ++ rest)) × StandIn pieces rest

-- each sign stands for one character
abbrev pub are_single : List ℕ → Bool
are_single signs = list_all (λ sign. not (sign == percent)) signs

-- the signs behind the first '%' of a pattern: some before its run, the run, and some behind it
abbrev pub signs_of : RunAndSigns → List ℕ
signs_of around = chars around.front.now ++ (chars around.run ++ chars around.rest.now)

-- the signs before the run stand for one character each, and those of the run for themselves
pub record IsAround (around : RunAndSigns) : Type 0 where
  pub some : 0 < length around.run
  pub text : IsUtf8 around.run
  pub ordinary : is_ordinary (chars around.run) ≡ true
  pub single : are_single (chars around.front.now) ≡ true

-- the pattern is a '%', and then these signs
abbrev pub IsAroundOf : RunAndSigns → List ℕ → Type 0
IsAroundOf around pattern = (chars pattern ≡ percent ∷ signs_of around) × IsAround around

-- the signs before the run fit an end of what stands before the place, and those behind it what stands behind the run
abbrev pub fits_around : RunAndSigns → List ℕ → ℕ → Bool
fits_around around text place =
    like (percent ∷ chars around.front.now) (chars (take place text))
    && like (chars around.rest.now) (chars (drop (place + length around.run) text))

-- the run stands at this place of the text, and the signs around it fit
abbrev pub FitsAt : RunAndSigns → List ℕ → ℕ → Type 0
FitsAt around text place = OccursAt text around.run place × (fits_around around text place ≡ true)

-- a sign other than '%' stands for this character
abbrev pub stands_for : ℕ → ℕ → Bool
stands_for sign letter = sign == underscore || letter == sign

-- the text is the front, a text too, and this character
abbrev pub EndsBy : ℕ → List ℕ → List ℕ → Type 0
EndsBy letter front text = IsUtf8 front × (chars text ≡ chars front ++ letter ∷ [])

-- the pattern is this front, whose signs stand for themselves, and a '%'
abbrev pub IsFrontOf : List ℕ → List ℕ → Type 0
IsFrontOf front pattern = (pattern ≡ front ++ percent ∷ []) × (is_ordinary (chars front) ≡ true)

-- whether each pattern that is this front and a '%' fits the text
abbrev pub TellsOfFront : List ℕ → List ℕ → Bool → Type 0
TellsOfFront front text fits = (pattern : List ℕ) → IsFrontOf front pattern → fits ≡ like (chars pattern) (chars text)

-- what the form says of the bytes of its pattern
abbrev pub IsFormOf : PatternForm → List ℕ → Type 0
IsFormOf (Whole text) pattern = (pattern ≡ text.now) × (is_ordinary (chars text.now) ≡ true)
IsFormOf (Prefix front) pattern = IsFrontOf front.now pattern
IsFormOf (Suffix end) pattern = (pattern ≡ percent ∷ end.now) × (is_ordinary (chars end.now) ≡ true)
IsFormOf (Infix finder) pattern = (pattern ≡ percent ∷ (finder ++ percent ∷ [])) × (is_ordinary (chars finder) ≡ true)
IsFormOf (Pieces pieces) pattern = ArePiecesOf pieces.items pattern
IsFormOf (Around around) pattern = IsAroundOf around pattern
IsFormOf (Having finder) pattern = IsRunOf finder pattern
IsFormOf Other pattern = Unit {0}

-- the run of bytes that a text has to have to fit, if one is sought
abbrev pub run_of : PatternForm → Option (List ℕ)
run_of (Infix part) = Some part
run_of (Pieces pieces) = slice_get pieces.items 0
run_of (Around around) = Some around.run
run_of (Having run) = Some run
run_of form = None

-- the run that is sought, if there is one, has this first place in the text
abbrev pub HasFirstPlace : Option (List ℕ) → List ℕ → ℕ → Type 0
HasFirstPlace sought text first = (run : List ℕ) → sought ≡ Some run → FindsNeedle text run 0 (Some first)

-- a pattern, and the run of bytes that a text has to have to fit it
pub record PatternByRun : Type 0 where
  pub pattern : List ℕ
  pub run : List ℕ

-- the answers for 64 texts from a place on, the first in the lowest bit
abbrev pub answers_of : List ℕ → List (List ℕ) → ℕ → ℕ
answers_of pattern texts from = mask_l (map (λ i. like (chars pattern) (chars (slice_index_or texts i []))) (range_with_len from 64))

-- the first place of the run in each of the texts
abbrev pub FindsInEach : List ℕ → List (List ℕ) → List (Option ℕ) → Type 0
FindsInEach run texts places = (i : ℕ) → i < length texts → FindsNeedle (slice_index_or texts i []) run 0 (slice_index_or places i None)

-- of the text from start to end of any bytes, place is the run's first one, where next is the bytes' first from start on
abbrev pub FindsWithin : List ℕ → ℕ → ℕ → Option ℕ → Option ℕ → Type 0
FindsWithin run start end next place = (front text rest : List ℕ) → length front ≡ start → start + length text ≡ end
    → FindsNeedle (front ++ (text ++ rest)) run start next → FindsNeedle text run 0 place
