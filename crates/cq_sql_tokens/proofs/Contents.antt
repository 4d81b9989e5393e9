-- The content of a quoted text, part by part.
use Rattle.std.proofs.Common.{◌≡◌, ◌≢◌, ℕ, suc, ◌<◌, Bool, true, false, cond, List, [], ◌∷◌, ◌++◌, length, get_or, Option, Some, None, refl, sym, ap, ◌∙◌, append_assoc, arith}
use Rattle.std.proofs.lemmas.List.{append-nil}
use Rattle.cq_sql_language.specs.Characters.{is_quote, begins, doubled}
use Rattle.cq_sql_language.specs.declared.token.Token.TheVariants as tokens
use Rattle.cq_sql_tokens.specs.Lexing.{onto, content_at, quoted_at}
use Rattle.std.proofs.lemmas.Bool.{eqb-true, ne_eqb}

-- what was read before stands before what is still read
abbrev pub with_front : List ℕ → Option (List ℕ × List ℕ) → Option (List ℕ × List ℕ)
with_front front (Some r) = Some (front ++ r.0, r.1)
with_front front None = None

-- no byte of the text is a quote
abbrev pub HasNoQuote : List ℕ → Type 0
HasNoQuote bs = (i : ℕ) → i < length bs → get_or bs i 0 ≢ 39

abbrev Content : Type 0
Content = Option (List ℕ × List ℕ)

abbrev content : List ℕ → List ℕ → Content
content q rest = Some (q, rest)

no_front : (read : Content) → with_front [] read ≡ read
no_front (Some r) = refl
no_front None = refl

onto_front : (b : ℕ) (front : List ℕ) (read : Content) → onto b (with_front front read) ≡ with_front (b ∷ front) read
onto_front b front (Some r) = refl
onto_front b front None = refl

two_fronts : (front more : List ℕ) (read : Content) → with_front front (with_front more read) ≡ with_front (front ++ more) read
two_fronts front more (Some r) = ap (λ (xs : List ℕ). content xs r.1) (sym (append_assoc front more r.0))
two_fronts front more None = refl

onto_is : (front : List ℕ) (b : ℕ) (read : Content) → with_front front (onto b read) ≡ with_front (front ++ b ∷ []) read
onto_is front b (Some r) = ap (λ (xs : List ℕ). content xs r.1) (sym (append_assoc front (b ∷ []) r.0))
onto_is front b None = refl

-- a part with no quote is content
past_part : (part after : List ℕ) → HasNoQuote part → content_at false (part ++ 39 ∷ after) ≡ with_front part (content_at true after)
past_part [] after h = sym (no_front (content_at true after))
past_part (b ∷ bs) after h =
    let first : is_quote b ≡ false = ne_eqb b 39 (h 0 (omega arith)) in
    rw first (ap (onto b) (past_part bs after (λ i lt. h (suc i) (omega arith))) ∙ onto_front b bs (content_at true after))

never_ends : (bs : List ℕ) → HasNoQuote bs → content_at false bs ≡ None
never_ends [] h = refl
never_ends (b ∷ bs) h =
    let first : is_quote b ≡ false = ne_eqb b 39 (h 0 (omega arith)) in
    rw first (ap (onto b) (never_ends bs (λ i lt. h (suc i) (omega arith))))

stands_after : (after : List ℕ) → ((more : List ℕ) → after ≢ 39 ∷ more) → content_at true after ≡ Some ([], after)
stands_after [] h = refl
stands_after (b ∷ bs) h =
    let first : is_quote b ≡ false = ne_eqb b 39 (λ e. h bs (ap (λ (x : ℕ). x ∷ bs) e)) in
    rw first refl

-- the quote behind a part ends the content, where no quote follows
pub ends_here : (front part after rest : List ℕ) (all : Content) → rest ≡ part ++ 39 ∷ after → HasNoQuote part → ((more : List ℕ) → after ≢ 39 ∷ more) → with_front front (content_at false rest) ≡ all → all ≡ Some (front ++ part, after)
ends_here front part after rest all is none last so_far =
    let read : content_at false rest ≡ with_front part (Some ([], after)) = ap (content_at false) is ∙ past_part part after none ∙ ap (with_front part) (stands_after after last) in
    sym so_far ∙ ap (with_front front) read ∙ two_fronts front part (Some ([], after)) ∙ ap (λ (xs : List ℕ). content xs after) (append-nil (front ++ part))

-- two quotes behind a part are one of the content
pub goes_on : (front part more rest : List ℕ) (all : Content) → rest ≡ part ++ 39 ∷ 39 ∷ more → HasNoQuote part → with_front front (content_at false rest) ≡ all → with_front ((front ++ part) ++ 39 ∷ []) (content_at false more) ≡ all
goes_on front part more rest all is none so_far =
    let read : content_at false rest ≡ with_front part (onto 39 (content_at false more)) = ap (content_at false) is ∙ past_part part (39 ∷ more) none in
    sym (ap (with_front front) read ∙ two_fronts front part (onto 39 (content_at false more)) ∙ onto_is (front ++ part) 39 (content_at false more)) ∙ so_far

-- with no quote left there is no content
pub is_open : (front rest : List ℕ) (all : Content) → HasNoQuote rest → with_front front (content_at false rest) ≡ all → all ≡ None
is_open front rest all none so_far = sym so_far ∙ ap (with_front front) (never_ends rest none)

found_by : (b : ℕ) (bs rest : List ℕ) (v : Bool) → is_quote b ≡ v → content_at false (doubled bs ++ 39 ∷ rest) ≡ Some (bs, rest) → content_at false ((cond v (39 ∷ 39 ∷ []) (b ∷ []) ++ doubled bs) ++ 39 ∷ rest) ≡ Some (b ∷ bs, rest)
found_by b bs rest true e h = rw (h, eqb-true b 39 e) refl
found_by b bs rest false e h = rw (e, h) refl

-- what is spelled is read
pub content_found : (q rest : List ℕ) → begins is_quote rest ≡ false → content_at false (doubled q ++ 39 ∷ rest) ≡ Some (q, rest)
content_found [] [] h = refl
content_found [] (b ∷ bs) h = rw h refl
content_found (b ∷ bs) rest h = found_by b bs rest (is_quote b) refl (content_found bs rest h)

-- a text that stands behind its first quote, or right behind one more
abbrev since : Bool → List ℕ → List ℕ
since false bs = bs
since true bs = 39 ∷ bs

-- the text is this content and a quote that no quote follows
abbrev IsCutAt : List ℕ → List ℕ → List ℕ → Type 0
IsCutAt text q rest = (text ≡ doubled q ++ 39 ∷ rest) × (begins is_quote rest ≡ false)

content_of : Content → List ℕ
content_of (Some r) = r.0
content_of None = []

rest_of : Content → List ℕ
rest_of (Some r) = r.1
rest_of None = []

same_content : (p q r s : List ℕ) → content p r ≡ content q s → (p ≡ q) × (r ≡ s)
unfolding content_of rest_of
same_content p q r s e = (ap content_of e, ap rest_of e)

onto_some : (b : ℕ) (read : Content) (q rest : List ℕ) → onto b read ≡ Some (q, rest) → (inner : List ℕ) × (read ≡ Some (inner, rest)) × (q ≡ b ∷ inner)
onto_some b (Some r) q rest e = let parts = same_content (b ∷ r.0) q r.1 rest e in (r.0, ap (content r.0) parts.1, sym parts.0)
onto_some b None q rest e = absurd cc

onto_other : (b : ℕ) (bs inner rest : List ℕ) → is_quote b ≡ false → bs ≡ doubled inner ++ 39 ∷ rest → b ∷ bs ≡ doubled (b ∷ inner) ++ 39 ∷ rest
onto_other b bs inner rest e is = rw e (ap (λ (xs : List ℕ). b ∷ xs) is)

onto_quote : (b : ℕ) (bs inner rest : List ℕ) → b ≡ 39 → bs ≡ doubled inner ++ 39 ∷ rest → 39 ∷ b ∷ bs ≡ doubled (b ∷ inner) ++ 39 ∷ rest
onto_quote b bs inner rest e is = rw e (ap (λ (xs : List ℕ). 39 ∷ 39 ∷ xs) is)

cut_here : (s : Bool) (b : ℕ) (bs q rest : List ℕ) (v : Bool) → is_quote b ≡ v
    → ((t : Bool) (inner : List ℕ) → content_at t bs ≡ Some (inner, rest) → IsCutAt (since t bs) inner rest)
    → content_at s (b ∷ bs) ≡ Some (q, rest) → IsCutAt (since s (b ∷ bs)) q rest
cut_here false b bs q rest true e cut read =
    let here : content_at true bs ≡ Some (q, rest) = rw e at read in
    let rest_cut = cut true q here in
    (ap (λ (x : ℕ). x ∷ bs) (eqb-true b 39 e) ∙ rest_cut.0, rest_cut.1)
cut_here false b bs q rest false e cut read =
    let here : onto b (content_at false bs) ≡ Some (q, rest) = rw e at read in
    let inner = onto_some b (content_at false bs) q rest here in
    let rest_cut = cut false inner.0 inner.1 in
    (onto_other b bs inner.0 rest e rest_cut.0 ∙ ap (λ (xs : List ℕ). doubled xs ++ 39 ∷ rest) (sym inner.2), rest_cut.1)
cut_here true b bs q rest true e cut read =
    let here : onto b (content_at false bs) ≡ Some (q, rest) = rw e at read in
    let inner = onto_some b (content_at false bs) q rest here in
    let rest_cut = cut false inner.0 inner.1 in
    (onto_quote b bs inner.0 rest (eqb-true b 39 e) rest_cut.0 ∙ ap (λ (xs : List ℕ). doubled xs ++ 39 ∷ rest) (sym inner.2), rest_cut.1)
cut_here true b bs q rest false e cut read =
    let here : Some ([], b ∷ bs) ≡ Some (q, rest) = rw e at read in
    let parts = same_content [] q (b ∷ bs) rest here in
    (rw (← parts.0, ← parts.1) refl, rw (← parts.1) e)

cut_from : (s : Bool) (bs q rest : List ℕ) → content_at s bs ≡ Some (q, rest) → IsCutAt (since s bs) q rest
cut_from false [] q rest read = absurd cc
cut_from true [] q rest read = let parts = same_content [] q [] rest read in (rw (← parts.0, ← parts.1) refl, rw (← parts.1) refl)
cut_from s (b ∷ bs) q rest read = cut_here s b bs q rest (is_quote b) refl (λ t inner here. cut_from t bs inner rest here) read

-- what is read is spelled so
pub content_only : (bs q rest : List ℕ) → content_at false bs ≡ Some (q, rest) → (bs ≡ doubled q ++ 39 ∷ rest) × (begins is_quote rest ≡ false)
content_only bs q rest read = cut_from false bs q rest read

-- the content as a token
pub is_quoted : (text q w rest : List ℕ) → content_at false text ≡ Some (q, rest) → w ≡ q → quoted_at text ≡ Some (tokens.Text w, rest)
is_quoted text q w rest e f = rw (e, f) refl

pub is_not_quoted : (text : List ℕ) → content_at false text ≡ None → quoted_at text ≡ None
is_not_quoted text e = rw e refl
