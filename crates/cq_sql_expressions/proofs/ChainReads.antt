-- A chain whose parts are read exactly is read exactly, from the left.
use Rattle.std.proofs.Common.{◌≡◌, ℕ, zero, suc, ◌+◌, ◌<◌, ◌≤◌, List, [], ◌∷◌, ◌++◌, length, Option, Some, None, refl, sym, ap, ap₂, subst, ◌∙◌, append_assoc, arith, length-append, ◌⊎◌, inl, inr}
use Rattle.cq_sql_language.specs.declared.token.Token.{Token}
use Rattle.cq_sql_language.specs.Written.{Written}
use Rattle.cq_sql_language.specs.Spelling.{spelled}
use Rattle.cq_sql_expressions.specs.Read.{◌>>=◌, Reader}
use Rattle.cq_sql_expressions.specs.Lists.{chain_from}
use Rattle.cq_sql_expressions.proofs.Exact.{bind_some}
use Rattle.cq_sql_expressions.proofs.Chains.{goes_on, breaks, stops, runs_out}
use Rattle.cq_sql_expressions.proofs.Tight.{joint, joint_in, Fits, ReadsTight}
use Rattle.std.proofs.lemmas.Option.{some_pair_parts}

-- one step of a chain, in its own words: what was read before, the separator, and the part behind it
abbrev pub Step : Type 0
Step = Written → List Token → Option (Option (Written × List Token))

-- what a separator and the part behind it make of what was read before
abbrev pub linked : {L : Type 0} → (L → Written → Written → Written) → Reader Written → L → Written → List Token → Option (Written × List Token)
linked make part l w us = part us >>= λ r. Some (make l w r.0, r.1)

-- the facts of a chain: how its nodes are spelled, and when a step of it goes on
pub record IsChain (level : ℕ) {L : Type 0} (token_of : L → Token) (make : L → Written → Written → Written) (part : Reader Written) (next : Step) : Type 0 where
  pub spells : (l : L) (a b : Written) → spelled (make l a b) ≡ spelled a ++ token_of l ∷ spelled b
  pub goes : (l : L) (w : Written) (us : List Token) → next w (token_of l ∷ us) ≡ Some (linked make part l w us)
  pub ends : (w : Written) (ts : List Token) → joint_in ts ≤ level → next w ts ≡ None
  pub back : (w : Written) (ts : List Token) (read : Option (Written × List Token)) → next w ts ≡ Some read → (l : L) × (us : List Token) × (ts ≡ token_of l ∷ us) × (read ≡ linked make part l w us)
  pub makes : (l : L) (a b : Written) → Fits level a → Fits (suc level) b → Fits level (make l a b)
  pub splits : (w : Written) → Fits level w → Fits (suc level) w ⊎ ((l : L) × (a b : Written) × (w ≡ make l a b) × Fits level a × Fits (suc level) b)
  pub tight : (l : L) → joint (token_of l) ≤ suc level

-- the first part, and then the chain from there
abbrev pub read_chain : Reader Written → Step → Reader Written
read_chain part next ts = part ts >>= λ r. chain_from next (length r.1) r.0 r.1

module _ (size level : ℕ) {L : Type 0} (token_of : L → Token) (make : L → Written → Written → Written) (part : Reader Written) (next : Step) (reads : ReadsTight size (suc level) part) (chain : IsChain level token_of make part next) where
  -- a step as its separator, and the part behind it
  taken : (w v : Written) (ts us : List Token) → next w ts ≡ Some (Some (v, us))
      → (l : L) × (b : Written) × (ts ≡ token_of l ∷ (spelled b ++ us)) × (v ≡ make l w b) × Fits (suc level) b
  taken w v ts us h =
      let s = chain.back w ts (Some (v, us)) h in
      let p = bind_some (part s.1) (λ r. Some (make s.0 w r.0, r.1)) (v, us) (sym s.3) in
      let o = reads.only p.0.0 s.1 p.0.1 p.1 in
      let q = some_pair_parts (make s.0 w p.0.0) v p.0.1 us p.2 in
      (s.0, p.0.0, s.2 ∙ ap (λ (ts : List Token). token_of s.0 ∷ ts) (o.1 ∙ ap (λ (vs : List Token). spelled p.0.0 ++ vs) q.1), sym q.0, o.0)

  -- behind a step stands less
  shorter : (w v : Written) (ts us : List Token) → next w ts ≡ Some (Some (v, us)) → length us < length ts
  shorter w v ts us h =
      let t = taken w v ts us h in
      omega (arith, ap (λ (vs : List Token). length vs) t.2, length-append (spelled t.1) us)

  -- two numbers of turns that both suffice, at a step
  turns_at : (n m : ℕ) (w : Written) (ts : List Token) (step : Option (Option (Written × List Token))) → next w ts ≡ step → length ts ≤ suc n → length ts ≤ suc m
      → ((v : Written) (us : List Token) → length us ≤ n → length us ≤ m → chain_from next n v us ≡ chain_from next m v us) → chain_from next (suc n) w ts ≡ chain_from next (suc m) w ts
  turns_at n m w ts None is le more again = stops next (suc n) w ts is ∙ sym (stops next (suc m) w ts is)
  turns_at n m w ts (Some None) is le more again = breaks next n w ts is ∙ sym (breaks next m w ts is)
  turns_at n m w ts (Some (Some (v, us))) is le more again =
      goes_on next n w v ts us is ∙ again v us (omega (arith, shorter w v ts us is)) (omega (arith, shorter w v ts us is)) ∙ sym (goes_on next m w v ts us is)

  -- as many turns as there are tokens suffice
  same_turns : (n m : ℕ) (w : Written) (ts : List Token) → length ts ≤ n → length ts ≤ m → chain_from next n w ts ≡ chain_from next m w ts
  same_turns zero m w [] le more =
      let none : next w [] ≡ None = chain.ends w [] (omega arith) in
      stops next zero w [] none ∙ sym (stops next m w [] none)
  same_turns zero m w (t ∷ ts) le more = absurd (omega arith)
  same_turns (suc n) zero w [] le more =
      let none : next w [] ≡ None = chain.ends w [] (omega arith) in
      stops next (suc n) w [] none ∙ sym (stops next zero w [] none)
  same_turns (suc n) zero w (t ∷ ts) le more = absurd (omega arith)
  same_turns (suc n) (suc m) w ts le more = turns_at n m w ts (next w ts) refl le more (λ v us less fewer. same_turns n m v us less fewer)

  -- what begins with a chain is read on from there, by its last separator
  reads_on_at : (m : ℕ) (w : Written) (us : List Token) → length (spelled w) ≤ m → length (spelled w) < size → joint_in us ≤ suc level
      → Fits (suc level) w ⊎ ((l : L) × (a b : Written) × (w ≡ make l a b) × Fits level a × Fits (suc level) b)
      → ((a : Written) (vs : List Token) → length (spelled a) < m → Fits level a → length (spelled a) < size → joint_in vs ≤ suc level → read_chain part next (spelled a ++ vs) ≡ chain_from next (length vs) a vs)
      → read_chain part next (spelled w ++ us) ≡ chain_from next (length us) w us
  reads_on_at m w us le small end (inl fit) again = rw (reads.found w us fit small end) refl
  reads_on_at m w us le small end (inr (l, a, b, is, left, right)) again =
      let spelling : spelled w ≡ spelled a ++ token_of l ∷ spelled b = ap spelled is ∙ chain.spells l a b in
      let whole : spelled w ++ us ≡ spelled a ++ token_of l ∷ (spelled b ++ us) = ap (λ (ts : List Token). ts ++ us) spelling ∙ append_assoc (spelled a) (token_of l ∷ spelled b) us in
      let count : length (spelled w) ≡ length (spelled a) + suc (length (spelled b)) = ap (λ (ts : List Token). length ts) spelling ∙ length-append (spelled a) (token_of l ∷ spelled b) in
      let part_is : linked make part l a (spelled b ++ us) ≡ Some (make l a b, us) = rw (reads.found b us right (omega (arith, count, small)) end) refl in
      let step : next a (token_of l ∷ (spelled b ++ us)) ≡ Some (Some (make l a b, us)) = chain.goes l a (spelled b ++ us) ∙ ap (λ (o : Option (Written × List Token)). Some o) part_is in
      let before = again a (token_of l ∷ (spelled b ++ us)) (omega (arith, count, le)) left (omega (arith, count, small)) (chain.tight l) in
      let later = goes_on next (length (spelled b ++ us)) a (make l a b) (token_of l ∷ (spelled b ++ us)) us step in
      let turns = same_turns (length (spelled b ++ us)) (length us) (make l a b) us (omega (arith, length-append (spelled b) us)) (omega arith) in
      ap (read_chain part next) whole ∙ before ∙ later ∙ turns ∙ ap (λ (v : Written). chain_from next (length us) v us) (sym is)

  -- what begins with a chain is read on from there
  reads_on : (m : ℕ) (w : Written) (us : List Token) → length (spelled w) ≤ m → Fits level w → length (spelled w) < size → joint_in us ≤ suc level
      → read_chain part next (spelled w ++ us) ≡ chain_from next (length us) w us
  reads_on zero w us le fit small end = reads_on_at zero w us le small end (chain.splits w fit) (λ a vs less left fewer after. absurd (omega (arith, less)))
  reads_on (suc m) w us le fit small end = reads_on_at (suc m) w us le small end (chain.splits w fit) (λ a vs less left fewer after. reads_on m a vs (omega (arith, less)) left fewer after)

  -- what a chain went on to, at a step
  only_at : (n : ℕ) (w v : Written) (ts rest : List Token) (step : Option (Option (Written × List Token))) → next w ts ≡ step → Fits level w → chain_from next (suc n) w ts ≡ Some (v, rest)
      → ((x : Written) (us : List Token) → Fits level x → chain_from next n x us ≡ Some (v, rest) → Fits level v × (spelled x ++ us ≡ spelled v ++ rest)) → Fits level v × (spelled w ++ ts ≡ spelled v ++ rest)
  only_at n w v ts rest None is fit e again =
      let p = some_pair_parts w v ts rest (sym (stops next (suc n) w ts is) ∙ e) in
      (subst (λ (x : Written). Fits level x) p.0 fit, ap₂ (λ (x : Written) (us : List Token). spelled x ++ us) p.0 p.1)
  only_at n w v ts rest (Some None) is fit e again =
      let bad : ◌≡◌ {A = Option (Written × List Token)} None (Some (v, rest)) = sym (breaks next n w ts is) ∙ e in
      absurd (cc bad)
  only_at n w v ts rest (Some (Some (x, us))) is fit e again =
      let t = taken w x ts us is in
      let made : Fits level x = subst (λ (y : Written). Fits level y) (sym t.3) (chain.makes t.0 w t.1 fit t.4) in
      let o = again x us made (sym (goes_on next n w x ts us is) ∙ e) in
      let spelling : spelled x ≡ spelled w ++ token_of t.0 ∷ spelled t.1 = ap spelled t.3 ∙ chain.spells t.0 w t.1 in
      let whole : spelled w ++ ts ≡ spelled x ++ us = ap (λ (vs : List Token). spelled w ++ vs) t.2 ∙ sym (append_assoc (spelled w) (token_of t.0 ∷ spelled t.1) us) ∙ ap (λ (vs : List Token). vs ++ us) (sym spelling) in
      (o.0, whole ∙ o.1)

  -- what a chain goes on to is a chain
  only_from : (n : ℕ) (w v : Written) (ts rest : List Token) → Fits level w → chain_from next n w ts ≡ Some (v, rest) → Fits level v × (spelled w ++ ts ≡ spelled v ++ rest)
  only_from zero w v ts rest fit e =
      let p = some_pair_parts w v ts rest (sym (runs_out next zero w ts refl) ∙ e) in
      (subst (λ (x : Written). Fits level x) p.0 fit, ap₂ (λ (x : Written) (us : List Token). spelled x ++ us) p.0 p.1)
  only_from (suc n) w v ts rest fit e = only_at n w v ts rest (next w ts) refl fit e (λ x us made h. only_from n x v us rest made h)

  -- a chain is read exactly
  pub chain_reads : ReadsTight size level (read_chain part next)
  chain_reads = record { found = found; only = only } where
    found : (w : Written) (rest : List Token) → Fits level w → length (spelled w) < size → joint_in rest ≤ level → read_chain part next (spelled w ++ rest) ≡ Some (w, rest)
    found w rest fit small end = reads_on (length (spelled w)) w rest (omega arith) fit small (omega (arith, end)) ∙ stops next (length rest) w rest (chain.ends w rest end)

    only : (w : Written) (ts rest : List Token) → read_chain part next ts ≡ Some (w, rest) → Fits level w × (ts ≡ spelled w ++ rest)
    only w ts rest e =
        let b = bind_some (part ts) (λ r. chain_from next (length r.1) r.0 r.1) (w, rest) e in
        let o = reads.only b.0.0 ts b.0.1 b.1 in
        let first : Fits level b.0.0 = (omega (arith, o.0.0), o.0.1) in
        let p = only_from (length b.0.1) b.0.0 w b.0.1 rest first b.2 in
        (p.0, o.1 ∙ p.1)
