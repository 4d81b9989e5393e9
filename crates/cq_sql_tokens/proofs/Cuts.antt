-- The tokens of a text, one after the other from the left.
use Rattle.std.proofs.Common.{◌≡◌, ℕ, ◌<◌, ◌≤◌, ◌==◌, Bool, true, false, cond, List, [], ◌∷◌, ◌++◌, length, Option, Some, None, Err, refl, sym, ap, ◌∙◌, subst, append_assoc, arith}
use Rattle.std.proofs.lemmas.Bool.Decides.{nat_tests}
use Rattle.std.proofs.lemmas.List.{append-nil}
use Rattle.cq_sql_language.specs.declared.token.Token.{Token}
use Rattle.cq_sql_language.specs.Lexemes.{Lexeme, blank, comment, word, digits, quoted, symbol, AreLexemesOf}
use Rattle.cq_sql_language.specs.Tokens.{tokens_of, HasTokens}
use Rattle.cq_sql_tokens.specs.declared.fault.TokenFault.{TokenFault}
use Rattle.cq_sql_tokens.specs.declared.fault.TokenFault.TheVariants as faults
use Rattle.cq_sql_tokens.specs.Lexing.{Gives, gap_at, past_space, token_at}
use Rattle.cq_sql_tokens.specs.Reading.{Reads}
use Rattle.cq_sql_tokens.proofs.Spelled.{told, Read, front_at, at_gap, at_token, at_none, front_found}
use Rattle.cq_sql_tokens.proofs.Fronts.{Fronts, gap_only, token_only, front_shrinks}

-- a token, if there is one, before others
abbrev with_told : Option Token → List Token → List Token
with_told None ts = ts
with_told (Some t) ts = t ∷ ts

told_first : (l : Lexeme) (ls : List Lexeme) → tokens_of (l ∷ ls) ≡ with_told (told l) (tokens_of ls)
told_first (blank b) ls = refl
told_first (comment c) ls = refl
told_first (word b bs) ls = refl
told_first (digits b bs) ls = refl
told_first (quoted q) ls = refl
told_first (symbol s) ls = refl

abbrev read : Option Token → List ℕ → Read
read t rest = Some (t, rest)

told_of : Read → Option Token
told_of (Some r) = r.0
told_of None = None

rest_of : Read → List ℕ
rest_of (Some r) = r.1
rest_of None = []

same_read : (t u : Option Token) (r s : List ℕ) → read t r ≡ read u s → (t ≡ u) × (r ≡ s)
unfolding told_of rest_of
same_read t u r s e = (ap told_of e, ap rest_of e)

nothing_in_front : (text : List ℕ) → text ≡ [] → front_at text ≡ None
unfolding gap_at token_at
nothing_in_front text e = rw e refl

-- the first of the lexemes is what the reader finds in front
first_is : (text : List ℕ) (l : Lexeme) (ls : List Lexeme) (cut : AreLexemesOf (l ∷ ls) text) → front_at text ≡ read (told l) cut.0
first_is text l ls cut = ap front_at cut.1 ∙ front_found l cut.0 cut.2

-- a text with nothing in front that can be read has no lexemes but where it is empty
no_lexemes : (text : List ℕ) (ls : List Lexeme) → front_at text ≡ None → (text ≡ [] → ⊥) → AreLexemesOf ls text → ⊥
no_lexemes text [] none some cut = some cut
no_lexemes text (l ∷ ls) none some cut = cc (none, first_is text l ls cut)

-- what is cut off in front leaves a text with the other tokens
others_of : (text : List ℕ) (t : Option Token) (rest : List ℕ) (ls : List Lexeme) → front_at text ≡ read t rest → AreLexemesOf ls text → (us : List Token) × (tokens_of ls ≡ with_told t us) × HasTokens rest us
others_of text t rest [] e cut = absurd (cc (e, nothing_in_front text cut))
others_of text t rest (l ∷ ls) e cut =
    let same = same_read (told l) t cut.0 rest (sym (first_is text l ls cut) ∙ e) in
    (tokens_of ls, told_first l ls ∙ ap (λ (u : Option Token). with_told u (tokens_of ls)) same.0, record { lexemes = ls; cut = subst (AreLexemesOf ls) same.1 cut.3; made = refl })

others : (text : List ℕ) (t : Option Token) (rest : List ℕ) (ts : List Token) → front_at text ≡ read t rest → HasTokens text ts → (us : List Token) × (ts ≡ with_told t us) × HasTokens rest us
others text t rest ts e h =
    let found = others_of text t rest h.lexemes e h.cut in
    (found.0, sym h.made ∙ found.1, found.2)

-- and what is put in front of a text with tokens makes one with one more
onto_others : (text : List ℕ) (t : Option Token) (rest : List ℕ) (us : List Token) → Fronts text t rest → HasTokens rest us → HasTokens text (with_told t us)
onto_others text t rest us front h = record {
  lexemes = front.lexeme ∷ h.lexemes;
  cut = (rest, front.cut, front.stands, h.cut);
  made = told_first front.lexeme h.lexemes ∙ ap (λ (u : Option Token). with_told u (tokens_of h.lexemes)) front.makes ∙ ap (with_told t) h.made;
}

same_tokens : (text : List ℕ) (ls ms : List Lexeme) → AreLexemesOf ls text → AreLexemesOf ms text → tokens_of ls ≡ tokens_of ms
same_tokens text [] [] c d = refl
same_tokens text [] (m ∷ ms) c d = absurd (cc (first_is text m ms d, nothing_in_front text c))
same_tokens text (l ∷ ls) [] c d = absurd (cc (first_is text l ls c, nothing_in_front text d))
same_tokens text (l ∷ ls) (m ∷ ms) c d =
    let same = same_read (told l) (told m) c.0 d.0 (sym (first_is text l ls c) ∙ first_is text m ms d) in
    let tail = same_tokens c.0 ls ms c.3 (subst (AreLexemesOf ms) (sym same.1) d.3) in
    told_first l ls ∙ ap (λ (u : Option Token). with_told u (tokens_of ls)) same.0 ∙ ap (with_told (told m)) tail ∙ sym (told_first m ms)

-- a text is cut into tokens in one way
pub one_cut : (text : List ℕ) (ts us : List Token) → HasTokens text ts → HasTokens text us → ts ≡ us
one_cut text ts us h k = sym h.made ∙ same_tokens text h.lexemes k.lexemes h.cut k.cut ∙ k.made

-- the tokens so far and those of the rest are the tokens of the text
pub record Continues (text : List ℕ) (front : List Token) (rest : List ℕ) : Type 0 where
  pub joins : (us : List Token) → HasTokens rest us → HasTokens text (front ++ us)
  pub parts : (ts : List Token) → HasTokens text ts → (us : List Token) × (ts ≡ front ++ us) × HasTokens rest us

pub starts : (text : List ℕ) → Continues text [] text
starts text = record { joins = λ us h. h; parts = λ ts h. (ts, refl, h) }

-- past a blank or a comment
pub skips : (text : List ℕ) (front : List Token) (rest after : List ℕ) → gap_at rest ≡ Some after → Continues text front rest → Continues text front after
skips text front rest after e so_far = record {
  joins = λ us h. so_far.joins us (onto_others rest None after us (gap_only rest after e) h);
  parts = λ ts h.
      let left = so_far.parts ts h in
      let more = others rest None after left.0 (at_gap rest after e) left.2 in
      (more.0, left.1 ∙ ap (λ (us : List Token). front ++ us) more.1, more.2);
}

space_is_gap : (b : ℕ) (bs : List ℕ) → (b == 32) ≡ true → gap_at (b ∷ bs) ≡ Some bs
unfolding gap_at
space_is_gap b bs e = rw e refl

skips_here : (text : List ℕ) (front : List Token) (b : ℕ) (bs : List ℕ) (v : Bool) → (b == 32) ≡ v → Continues text front (b ∷ bs) → Continues text front (cond v bs (b ∷ bs))
skips_here text front b bs true e so_far = skips text front (b ∷ bs) bs (space_is_gap b bs e) so_far
skips_here text front b bs false e so_far = so_far

-- past a space, if one is there
skips_space : (text : List ℕ) (front : List Token) (rest : List ℕ) → Continues text front rest → Continues text front (past_space rest)
skips_space text front [] so_far = so_far
skips_space text front (b ∷ bs) so_far = skips_here text front b bs (b == 32) refl so_far

-- past a token
pub takes : (text : List ℕ) (front : List Token) (rest : List ℕ) (t : Token) (after : List ℕ) → gap_at rest ≡ None → token_at rest ≡ Some (t, after)
    → Continues text front rest → Continues text (front ++ t ∷ []) after
takes text front rest t after none e so_far = record {
  joins = λ us h. subst (HasTokens text) (sym (append_assoc front (t ∷ []) us)) (so_far.joins (t ∷ us) (onto_others rest (Some t) after us (token_only rest t after none e) h));
  parts = λ ts h.
      let left = so_far.parts ts h in
      let more = others rest (Some t) after left.0 (at_token rest t after none e) left.2 in
      (more.0, left.1 ∙ ap (λ (us : List Token). front ++ us) more.1 ∙ sym (append_assoc front (t ∷ []) more.0), more.2);
}

-- past a token and a space behind it
pub takes_spaced : (text : List ℕ) (front : List Token) (rest : List ℕ) (t : Token) (after behind : List ℕ) → gap_at rest ≡ None → token_at rest ≡ Some (t, after) → behind ≡ past_space after
    → Continues text front rest → Continues text (front ++ t ∷ []) behind
takes_spaced text front rest t after behind none e is so_far = rw is (skips_space text (front ++ t ∷ []) after (takes text front rest t after none e so_far))

-- with nothing left, the tokens so far are those of the text
pub is_done : (text : List ℕ) (front : List Token) (rest : List ℕ) → (length rest == 0) ≡ true → Continues text front rest → HasTokens text front
is_done text front [] empty so_far = subst (HasTokens text) (append-nil front) (so_far.joins [] (record { lexemes = []; cut = refl; made = refl }))
is_done text front (b ∷ bs) empty so_far = absurd (grind (arith, nat_tests))

is_some : (rest : List ℕ) → (length rest == 0) ≡ false → rest ≡ [] → ⊥
is_some rest some e = let len : length rest ≡ 0 = ap (λ (xs : List ℕ). length xs) e in grind (arith, nat_tests)

-- where the rest begins with no token, the text has none
pub stops : (e : TokenFault) (text : List ℕ) (front : List Token) (rest : List ℕ) → (length rest == 0) ≡ false → gap_at rest ≡ None → Gives {X = Token} (λ t. (t, rest)) (Err e) (token_at rest)
    → Continues text front rest → Reads text (Err e)
stops faults.Memory text front rest some none given so_far = tt
stops faults.Syntax text front rest some none given so_far = λ ts h.
    let left = so_far.parts ts h in
    no_lexemes rest left.2.lexemes (at_none rest none given) (is_some rest some) left.2.cut

-- what is left grows shorter
pub gap_shrinks : (rest after : List ℕ) → gap_at rest ≡ Some after → length after < length rest
gap_shrinks rest after e = front_shrinks rest None after (gap_only rest after e)

pub token_shrinks : (rest : List ℕ) (t : Token) (after : List ℕ) → gap_at rest ≡ None → token_at rest ≡ Some (t, after) → length after < length rest
token_shrinks rest t after none e = front_shrinks rest (Some t) after (token_only rest t after none e)

past_space_shrinks : (rest : List ℕ) → length (past_space rest) ≤ length rest
past_space_shrinks [] = omega arith
past_space_shrinks (b ∷ bs) = grind arith

pub spaced_shrinks : (rest : List ℕ) (t : Token) (after behind : List ℕ) → gap_at rest ≡ None → token_at rest ≡ Some (t, after) → behind ≡ past_space after → length behind < length rest
spaced_shrinks rest t after behind none e is = rw is (omega (arith, past_space_shrinks after, token_shrinks rest t after none e))

-- a number with a sign behind it
pub signed_shrinks : (rest : List ℕ) (t : Token) (after : List ℕ) → gap_at rest ≡ None → token_at rest ≡ Some (t, after)
    → (u : Token) (sign behind : List ℕ) → gap_at after ≡ None → token_at after ≡ Some (u, sign) → behind ≡ past_space sign → length behind < length rest
signed_shrinks rest t after none e u sign behind none_behind f is = omega (arith, token_shrinks rest t after none e, spaced_shrinks after u sign behind none_behind f is)
