-- Lists are read exactly, where their entries are.
use Rattle.std.proofs.Common.{◌≡◌, ℕ, zero, suc, ◌≤◌, List, [], ◌∷◌, ◌++◌, length, Option, Some, None, refl, sym, ap, subst, ◌∙◌, append_assoc, arith, length-append}
use Rattle.std.proofs.lemmas.List.{append-nil}
use Rattle.cq_sql_language.specs.declared.token.Keyword.TheVariants as keywords
use Rattle.cq_sql_language.specs.declared.token.Symbol.TheVariants as symbols
use Rattle.cq_sql_language.specs.declared.token.Token.{Token}
use Rattle.cq_sql_language.specs.declared.token.Token.TheVariants as tokens
use Rattle.cq_sql_language.specs.Parts.{◌before◌, IsWord, Each, Separated, SeparatedBy}
use Rattle.cq_sql_language.specs.Query.{AreJoinWords}
use Rattle.cq_sql_expressions.specs.declared.leads.Lead.{Lead}
use Rattle.cq_sql_expressions.specs.declared.leads.Lead.TheVariants as leads
use Rattle.cq_sql_expressions.specs.Read.{Reader, followed_by}
use Rattle.cq_sql_expressions.specs.Lists.{chain_from, after_lead, led, more_at, list_at, one_more_behind}
use Rattle.cq_sql_expressions.proofs.Chains.{goes_on, breaks, stops, runs_out}
use Rattle.cq_sql_expressions.proofs.Exact.{Reads, Leads, bind_some, word_leads, sign_leads, join_leads}
use Rattle.cq_sql_expressions.proofs.Steps.{by_same}
use Rattle.std.proofs.lemmas.Option.{some_pair_parts}

-- the tokens of a lead
abbrev pub IsLead : Lead → List Token → Type 0
IsLead leads.Comma = λ ts. ts ≡ tokens.Symbol symbols.Comma ∷ []
IsLead leads.And = IsWord keywords.And
IsLead leads.Join = AreJoinWords

-- leads are taken exactly
leads_lead : (lead : Lead) → Leads (IsLead lead) (after_lead lead)
leads_lead leads.Comma = sign_leads symbols.Comma
leads_lead leads.And = word_leads keywords.And
leads_lead leads.Join = join_leads

-- what follows is an end of an entry, and no further lead
abbrev pub EndsList : Lead → (List Token → Type 0) → List Token → Type 0
EndsList lead Ends rest = Ends rest × (after_lead lead rest ≡ None)

-- an entry behind its lead
abbrev pub IsLed : {A : Type 0} → Lead → (A → List Token → Type 0) → A → List Token → Type 0
IsLed lead Is x = IsLead lead before Is x

-- an entry, and then further ones behind their leads
abbrev pub IsList : {A : Type 0} → Lead → (A → List Token → Type 0) → List A → List Token → Type 0
IsList lead Is [] ts = ⊥
IsList lead Is (x ∷ xs) ts = (Is x before Each (IsLed lead Is) xs) ts

-- an entry that is read exactly, and may end at the lead of the next
module _ {A : Type 0} (lead : Lead) (Ends : List Token → Type 0) (Is : A → List Token → Type 0) (item : Reader A) (reads : Reads Ends Is item) (at_lead : (front rest : List Token) → IsLead lead front → Ends (front ++ rest)) where
  -- at most as many entries as tokens
  entries : (xs : List A) (ts : List Token) → Each (IsLed lead Is) xs ts → length xs ≤ length ts
  entries [] ts h = omega arith
  entries (x ∷ xs) ts h =
      let one = h.3 in
      let takes = leads_lead lead in
      omega (arith, entries xs h.1 h.4, takes.some one.0 one.3, ap (λ (us : List Token). length us) h.2, length-append h.0 h.1, ap (λ (us : List Token). length us) one.2, length-append one.0 one.1)

  -- what follows an entry ends it: a further lead, or what ends the list
  ends_entry : (xs : List A) (ts rest : List Token) → Each (IsLed lead Is) xs ts → EndsList lead Ends rest → Ends (ts ++ rest)
  ends_entry [] ts rest h end = rw h end.0
  ends_entry (x ∷ xs) ts rest h end =
      let one = h.3 in
      let split : ts ++ rest ≡ one.0 ++ (one.1 ++ (h.1 ++ rest)) = rw (h.2, one.2) (append_assoc (one.0 ++ one.1) h.1 rest ∙ append_assoc one.0 one.1 (h.1 ++ rest)) in
      subst Ends (sym split) (at_lead one.0 (one.1 ++ (h.1 ++ rest)) one.3)

  -- further entries are found in as many turns as there are
  led_found : (n : ℕ) (earlier xs : List A) (ts rest : List Token) → length xs ≤ n → Each (IsLed lead Is) xs ts → EndsList lead Ends rest → chain_from (led lead item) n earlier (ts ++ rest) ≡ Some (earlier ++ xs, rest)
  unfolding one_more_behind
  led_found n earlier [] ts rest le h end =
      let step : led lead item earlier rest ≡ None = rw end.1 refl in
      rw h (stops (led lead item) n earlier rest step ∙ ap (λ (xs : List A). Some (xs, rest)) (sym (append-nil earlier)))
  led_found zero earlier (x ∷ xs) ts rest le h end = absurd (omega arith)
  led_found (suc n) earlier (x ∷ xs) ts rest le h end =
      let one = h.3 in
      let takes = leads_lead lead in
      let split : ts ++ rest ≡ one.0 ++ (one.1 ++ (h.1 ++ rest)) = rw (h.2, one.2) (append_assoc (one.0 ++ one.1) h.1 rest ∙ append_assoc one.0 one.1 (h.1 ++ rest)) in
      let step : led lead item earlier (ts ++ rest) ≡ Some (Some (earlier ++ x ∷ [], h.1 ++ rest))
      = rw (split, takes.found one.0 (one.1 ++ (h.1 ++ rest)) one.3, reads.found x one.1 (h.1 ++ rest) one.4 (ends_entry xs h.1 rest h.4 end)) refl in
      goes_on (led lead item) n earlier (earlier ++ x ∷ []) (ts ++ rest) (h.1 ++ rest) step ∙ led_found n (earlier ++ x ∷ []) xs h.1 rest (omega arith) h.4 end ∙ ap (λ (ys : List A). Some (ys, rest)) (append_assoc earlier (x ∷ []) xs)

  -- what was read behind other entries are entries behind their leads
  abbrev AreLed : List A → List Token → List A → List Token → Type 0
  AreLed earlier ts all rest = (xs : List A) × (front : List Token) × (earlier ++ xs ≡ all) × (ts ≡ front ++ rest) × Each (IsLed lead Is) xs front

  -- no further entry was read
  no_more : (earlier all : List A) (ts rest : List Token) → ◌≡◌ {A = Option (List A × List Token)} (Some (earlier, ts)) (Some (all, rest)) → AreLed earlier ts all rest
  no_more earlier all ts rest e =
      let p = some_pair_parts earlier all ts rest e in
      ([], [], append-nil earlier ∙ p.0, p.1, refl)

  -- an entry was read, and others behind it
  one_more : (n : ℕ) (earlier all : List A) (ts us rest : List Token) (read : Option (A × List Token)) → item us ≡ read → after_lead lead ts ≡ Some us → chain_from (led lead item) (suc n) earlier ts ≡ Some (all, rest)
      → ((ys : List A) (vs : List Token) → chain_from (led lead item) n ys vs ≡ Some (all, rest) → AreLed ys vs all rest) → AreLed earlier ts all rest
  unfolding one_more_behind
  one_more n earlier all ts us rest None is there e again =
      let step : led lead item earlier ts ≡ Some None = rw (there, is) refl in
      let bad : ◌≡◌ {A = Option (List A × List Token)} None (Some (all, rest)) = sym (breaks (led lead item) n earlier ts step) ∙ e in
      absurd (cc bad)
  one_more n earlier all ts us rest (Some (x, vs)) is there e again =
      let takes = leads_lead lead in
      let step : led lead item earlier ts ≡ Some (Some (earlier ++ x ∷ [], vs)) = rw (there, is) refl in
      let l = takes.only ts us there in
      let o = reads.only x us vs is in
      let m = again (earlier ++ x ∷ []) vs (sym (goes_on (led lead item) n earlier (earlier ++ x ∷ []) ts vs step) ∙ e) in
      let split : ts ≡ ((l.0 ++ o.0) ++ m.1) ++ rest = l.1 ∙ ap (λ (qs : List Token). l.0 ++ qs) (o.1 ∙ ap (λ (qs : List Token). o.0 ++ qs) m.3) ∙ sym (append_assoc (l.0 ++ o.0) m.1 rest ∙ append_assoc l.0 o.0 (m.1 ++ rest)) in
      (x ∷ m.0, (l.0 ++ o.0) ++ m.1, sym (append_assoc earlier (x ∷ []) m.0) ∙ m.2, split, (l.0 ++ o.0, m.1, refl, (l.0, o.0, refl, l.2, o.2), m.4))

  -- with or without a lead, entries behind their leads were read
  by_lead : (n : ℕ) (earlier all : List A) (ts rest : List Token) (after : Option (List Token)) → after_lead lead ts ≡ after → chain_from (led lead item) (suc n) earlier ts ≡ Some (all, rest)
      → ((ys : List A) (vs : List Token) → chain_from (led lead item) n ys vs ≡ Some (all, rest) → AreLed ys vs all rest) → AreLed earlier ts all rest
  unfolding one_more_behind
  by_lead n earlier all ts rest None there e again =
      let step : led lead item earlier ts ≡ None = rw there refl in
      no_more earlier all ts rest (sym (stops (led lead item) (suc n) earlier ts step) ∙ e)
  by_lead n earlier all ts rest (Some us) there e again = one_more n earlier all ts us rest (item us) refl there e again

  -- what is read in some turns are entries behind their leads
  led_only : (n : ℕ) (earlier all : List A) (ts rest : List Token) → chain_from (led lead item) n earlier ts ≡ Some (all, rest) → AreLed earlier ts all rest
  led_only zero earlier all ts rest e = no_more earlier all ts rest (sym (runs_out (led lead item) zero earlier ts refl) ∙ e)
  led_only (suc n) earlier all ts rest e = by_lead n earlier all ts rest (after_lead lead ts) refl e (λ ys vs h. led_only n ys all vs rest h)

  -- further entries are read exactly
  pub more_reads : Reads (EndsList lead Ends) (Each (IsLed lead Is)) (more_at lead item [])
  unfolding more_at
  more_reads = record { found = found; only = only } where
    found : (xs : List A) (front rest : List Token) → Each (IsLed lead Is) xs front → EndsList lead Ends rest → chain_from (led lead item) (length (front ++ rest)) [] (front ++ rest) ≡ Some (xs, rest)
    found xs front rest h end = led_found (length (front ++ rest)) [] xs front rest (omega (arith, entries xs front h, length-append front rest)) h end

    only : (xs : List A) (ts rest : List Token) → chain_from (led lead item) (length ts) [] ts ≡ Some (xs, rest) → (front : List Token) × (ts ≡ front ++ rest) × Each (IsLed lead Is) xs front
    only xs ts rest e =
        let o = led_only (length ts) [] xs ts rest e in
        (o.1, o.3, subst (λ (ys : List A). Each (IsLed lead Is) ys o.1) o.2 o.4)

  -- a first entry and further ones are read exactly
  pub list_reads : Reads (EndsList lead Ends) (IsList lead Is) (list_at lead item)
  unfolding list_at more_at
  list_reads = record { found = found; only = only } where
    found : (xs : List A) (front rest : List Token) → IsList lead Is xs front → EndsList lead Ends rest → followed_by item (λ x. more_at lead item (x ∷ [])) (front ++ rest) ≡ Some (xs, rest)
    found [] front rest h end = absurd h
    found (x ∷ xs) front rest h end =
        let split : front ++ rest ≡ h.0 ++ (h.1 ++ rest) = ap (λ (ts : List Token). ts ++ rest) h.2 ∙ append_assoc h.0 h.1 rest in
        rw (split, reads.found x h.0 (h.1 ++ rest) h.3 (ends_entry xs h.1 rest h.4 end)) (led_found (length (h.1 ++ rest)) (x ∷ []) xs h.1 rest (omega (arith, entries xs h.1 h.4, length-append h.1 rest)) h.4 end)

    only : (xs : List A) (ts rest : List Token) → followed_by item (λ x. more_at lead item (x ∷ [])) ts ≡ Some (xs, rest) → (front : List Token) × (ts ≡ front ++ rest) × IsList lead Is xs front
    only xs ts rest e =
        let b = bind_some (item ts) (λ r. more_at lead item (r.0 ∷ []) r.1) (xs, rest) e in
        let a = reads.only b.0.0 ts b.0.1 b.1 in
        let o = led_only (length b.0.1) (b.0.0 ∷ []) xs b.0.1 rest b.2 in
        (a.0 ++ o.1, a.1 ∙ ap (λ (us : List Token). a.0 ++ us) o.3 ∙ sym (append_assoc a.0 o.1 rest), subst (λ (ys : List A). IsList lead Is ys (a.0 ++ o.1)) o.2 (a.0, o.1, refl, a.2, o.4))

-- ---- Separated lists
-- entries behind links are entries in front of which a link stands
module _ {A : Type 0} (link : Token) (Is : A → List Token → Type 0) where
  abbrev IsLinked : A → List Token → Type 0
  IsLinked x = (λ ts. ts ≡ link ∷ []) before Is x

  -- a first entry, and further ones behind their links
  abbrev pub AreLinked : List A → List Token → Type 0
  AreLinked [] ts = ⊥
  AreLinked (x ∷ xs) ts = (Is x before Each IsLinked xs) ts

  -- a separated list has a link in front of each later entry
  pub linked : (xs : List A) (ts : List Token) → SeparatedBy link Is xs ts → AreLinked xs ts
  linked [] ts h = h
  linked (x ∷ []) ts h = (ts, [], sym (append-nil ts), h, refl)
  linked (x ∷ y ∷ ys) ts h =
      let o = linked (y ∷ ys) h.1 h.4 in
      (h.0, link ∷ h.1, h.2, h.3, (link ∷ o.0, o.1, ap (λ (us : List Token). link ∷ us) o.2, (link ∷ [], o.0, refl, refl, o.3), o.4))

  -- entries with a link in front of each later one are a separated list
  pub separated : (xs : List A) (ts : List Token) → AreLinked xs ts → SeparatedBy link Is xs ts
  separated [] ts h = h
  separated (x ∷ []) ts h =
      let whole : ts ≡ h.0 = rw (h.2, h.4) (append-nil h.0) in
      subst (λ (us : List Token). Is x us) (sym whole) h.3
  separated (x ∷ y ∷ ys) ts h =
      let others = h.4 in
      let one = others.3 in
      let whole : h.1 ≡ link ∷ (one.1 ++ others.1) = rw (others.2, one.2, one.3) refl in
      (h.0, one.1 ++ others.1, h.2 ∙ ap (λ (us : List Token). h.0 ++ us) whole, h.3, separated (y ∷ ys) (one.1 ++ others.1) (one.1, others.1, refl, one.4, others.4))

-- lists with commas are read exactly
pub comma_reads : {A : Type 0} {Ends : List Token → Type 0} {Is : A → List Token → Type 0} {item : Reader A} → Reads Ends Is item → ((ts : List Token) → Ends (tokens.Symbol symbols.Comma ∷ ts))
    → Reads (EndsList leads.Comma Ends) (Separated Is) (list_at leads.Comma item)
comma_reads {A} {Ends} {Is} {item} reads at_comma =
    by_same (list_reads leads.Comma Ends Is item reads (λ front rest h. rw h (at_comma rest))) (linked (tokens.Symbol symbols.Comma) Is) (separated (tokens.Symbol symbols.Comma) Is)

-- lists with AND are read exactly
pub and_reads : {A : Type 0} {Ends : List Token → Type 0} {Is : A → List Token → Type 0} {item : Reader A} → Reads Ends Is item → ((ts : List Token) → Ends (tokens.Keyword keywords.And ∷ ts))
    → Reads (EndsList leads.And Ends) (SeparatedBy (tokens.Keyword keywords.And) Is) (list_at leads.And item)
and_reads {A} {Ends} {Is} {item} reads at_and =
    by_same (list_reads leads.And Ends Is item reads (λ front rest h. rw h (at_and rest))) (linked (tokens.Keyword keywords.And) Is) (separated (tokens.Keyword keywords.And) Is)
