-- How exact readers are put together.
use Rattle.std.proofs.Common.{◌≡◌, List, ◌++◌, Option, Some, refl, sym, ap, subst, ◌∙◌, append_assoc}
use Rattle.cq_sql_language.specs.declared.token.Token.{Token}
use Rattle.cq_sql_language.specs.Parts.{◌before◌}
use Rattle.cq_sql_expressions.specs.Read.{Reader, done, followed_by, behind}
use Rattle.cq_sql_expressions.proofs.Exact.{Reads, Makes, Leads, Anything, bind_some}
use Rattle.std.proofs.lemmas.Option.{some_pair_parts}

-- another relation that says the same
pub by_same : {A : Type 0} {Ends : List Token → Type 0} {Is Others : A → List Token → Type 0} {item : Reader A} → Reads Ends Is item
    → ((x : A) (ts : List Token) → Others x ts → Is x ts) → ((x : A) (ts : List Token) → Is x ts → Others x ts) → Reads Ends Others item
by_same {A} {Ends} {Is} {Others} {item} reads to from = record { found = found; only = only } where
  found : (x : A) (front rest : List Token) → Others x front → Ends rest → item (front ++ rest) ≡ Some (x, rest)
  found x front rest h end = reads.found x front rest (to x front h) end

  only : (x : A) (ts rest : List Token) → item ts ≡ Some (x, rest) → (front : List Token) × (ts ≡ front ++ rest) × Others x front
  only x ts rest e =
      let o = reads.only x ts rest e in
      (o.0, o.1, from x o.0 o.2)

-- the same, where what follows ends more
pub with_ends : {A : Type 0} {Ends Others : List Token → Type 0} {Is : A → List Token → Type 0} {item : Reader A} → Reads Ends Is item → ((rest : List Token) → Others rest → Ends rest) → Reads Others Is item
with_ends reads ends = record { found = λ x front rest h end. reads.found x front rest h (ends rest end); only = reads.only }

-- the last part, which needs nothing behind it
pub last_makes : {X Y : Type 0} {Ends : List Token → Type 0} {Is : X → List Token → Type 0} {item : Reader X} (make : X → Y) → Reads Ends Is item → Makes Ends Is make (followed_by item (λ x. done (make x)))
last_makes {X} {Y} {Ends} {Is} {item} make reads = record { found = found; only = only } where
  found : (x : X) (front rest : List Token) → Is x front → Ends rest → followed_by item (λ z. done (make z)) (front ++ rest) ≡ Some (make x, rest)
  found x front rest h end = rw (reads.found x front rest h end) refl

  only : (y : Y) (ts rest : List Token) → followed_by item (λ z. done (make z)) ts ≡ Some (y, rest) → (x : X) × (front : List Token) × (make x ≡ y) × (ts ≡ front ++ rest) × Is x front
  only y ts rest e =
      let b = bind_some (item ts) (λ r. done (make r.0) r.1) (y, rest) e in
      let p = some_pair_parts (make b.0.0) y b.0.1 rest b.2 in
      let o = reads.only b.0.0 ts b.0.1 b.1 in
      (b.0.0, o.0, p.0, o.1 ∙ ap (λ (us : List Token). o.0 ++ us) p.1, o.2)

-- a word or a sign in front
pub lead_makes : {X Y : Type 0} {Ends Is : List Token → Type 0} {Are : X → List Token → Type 0} {make : X → Y} {after : List Token → Option (List Token)} {more : Reader Y}
    → Leads Is after → Makes Ends Are make more → Makes Ends (λ x. Is before Are x) make (behind after more)
lead_makes {X} {Y} {Ends} {Is} {Are} {make} {after} {more} leads makes = record { found = found; only = only } where
  found : (x : X) (front rest : List Token) → (Is before Are x) front → Ends rest → behind after more (front ++ rest) ≡ Some (make x, rest)
  found x front rest h end =
      let split : front ++ rest ≡ h.0 ++ (h.1 ++ rest) = ap (λ (ts : List Token). ts ++ rest) h.2 ∙ append_assoc h.0 h.1 rest in
      rw (split, leads.found h.0 (h.1 ++ rest) h.3) (makes.found x h.1 rest h.4 end)

  only : (y : Y) (ts rest : List Token) → behind after more ts ≡ Some (y, rest) → (x : X) × (front : List Token) × (make x ≡ y) × (ts ≡ front ++ rest) × (Is before Are x) front
  only y ts rest e =
      let b = bind_some (after ts) more (y, rest) e in
      let l = leads.only ts b.0 b.1 in
      let o = makes.only y b.0 rest b.2 in
      (o.0, l.0 ++ o.1, o.2, l.1 ∙ ap (λ (us : List Token). l.0 ++ us) o.3 ∙ sym (append_assoc l.0 o.1 rest), (l.0, o.1, refl, l.2, o.4))

-- one part, and then the others
pub part_makes : {A X Y : Type 0} {FirstEnds Ends : List Token → Type 0} {Is : A → List Token → Type 0} {Are : X → List Token → Type 0} {make : A × X → Y} {item : Reader A} {more : A → Reader Y}
    → Reads FirstEnds Is item → ((x : X) (back rest : List Token) → Are x back → Ends rest → FirstEnds (back ++ rest)) → ((a : A) → Makes Ends Are (λ x. make (a, x)) (more a))
    → Makes Ends (λ x. Is x.0 before Are x.1) make (followed_by item more)
part_makes {A} {X} {Y} {FirstEnds} {Ends} {Is} {Are} {make} {item} {more} first ends others = record { found = found; only = only } where
  found : (x : A × X) (front rest : List Token) → (Is x.0 before Are x.1) front → Ends rest → followed_by item more (front ++ rest) ≡ Some (make x, rest)
  found x front rest h end =
      let split : front ++ rest ≡ h.0 ++ (h.1 ++ rest) = ap (λ (ts : List Token). ts ++ rest) h.2 ∙ append_assoc h.0 h.1 rest in
      let later = others x.0 in
      rw (split, first.found x.0 h.0 (h.1 ++ rest) h.3 (ends x.1 h.1 rest h.4 end)) (later.found x.1 h.1 rest h.4 end)

  only : (y : Y) (ts rest : List Token) → followed_by item more ts ≡ Some (y, rest) → (x : A × X) × (front : List Token) × (make x ≡ y) × (ts ≡ front ++ rest) × (Is x.0 before Are x.1) front
  only y ts rest e =
      let b = bind_some (item ts) (λ r. more r.0 r.1) (y, rest) e in
      let a = first.only b.0.0 ts b.0.1 b.1 in
      let later = others b.0.0 in
      let o = later.only y b.0.1 rest b.2 in
      ((b.0.0, o.0), a.0 ++ o.1, o.2, a.1 ∙ ap (λ (us : List Token). a.0 ++ us) o.3 ∙ sym (append_assoc a.0 o.1 rest), (a.0, o.1, refl, a.2, o.4))

-- a part that needs no look ahead, and then the others
pub next_makes : {A X Y : Type 0} {Ends : List Token → Type 0} {Is : A → List Token → Type 0} {Are : X → List Token → Type 0} {make : A × X → Y} {item : Reader A} {more : A → Reader Y}
    → Reads Anything Is item → ((a : A) → Makes Ends Are (λ x. make (a, x)) (more a)) → Makes Ends (λ x. Is x.0 before Are x.1) make (followed_by item more)
next_makes first others = part_makes first (λ x back rest h end. tt) others

-- what is made of the parts is read exactly, where the parts can be told from it
pub made_reads : {X Y : Type 0} {Ends : List Token → Type 0} {Are : X → List Token → Type 0} {make : X → Y} {item : Reader Y} (parts : Y → X) → ((y : Y) → make (parts y) ≡ y) → ((x : X) → parts (make x) ≡ x)
    → Makes Ends Are make item → Reads Ends (λ y. Are (parts y)) item
made_reads {X} {Y} {Ends} {Are} {make} {item} parts same back makes = record { found = found; only = only } where
  found : (y : Y) (front rest : List Token) → Are (parts y) front → Ends rest → item (front ++ rest) ≡ Some (y, rest)
  found y front rest h end = makes.found (parts y) front rest h end ∙ ap (λ (z : Y). Some (z, rest)) (same y)

  only : (y : Y) (ts rest : List Token) → item ts ≡ Some (y, rest) → (front : List Token) × (ts ≡ front ++ rest) × Are (parts y) front
  only y ts rest e =
      let o = makes.only y ts rest e in
      (o.1, o.3, subst (λ (x : X). Are x o.1) (sym (back o.0) ∙ ap parts o.2) o.4)

-- a word or a sign in front of what is read exactly
pub lead_reads : {X : Type 0} {Ends Is : List Token → Type 0} {Are : X → List Token → Type 0} {after : List Token → Option (List Token)} {more : Reader X} → Leads Is after → Reads Ends Are more → Reads Ends (λ x. Is before Are x) (behind after more)
lead_reads {X} {Ends} {Is} {Are} {after} {more} leads reads = made_reads (λ (x : X). x) (λ x. refl) (λ x. refl) (lead_makes {make = λ (x : X). x} leads itself) where
  itself : Makes Ends Are (λ (x : X). x) more
  itself = record { found = reads.found; only = λ y ts rest e. let o = reads.only y ts rest e in (y, o.0, refl, o.1, o.2) }

-- a last word or sign, and no part behind it
pub lead_last : {Y : Type 0} {Ends Is : List Token → Type 0} {after : List Token → Option (List Token)} (y : Y) → Leads Is after → Makes {X = Unit {0}} Ends (λ x. Is) (λ x. y) (behind after (done y))
lead_last {Y} {Ends} {Is} {after} y leads = record { found = found; only = only } where
  found : (x : Unit {0}) (front rest : List Token) → Is front → Ends rest → behind after (done y) (front ++ rest) ≡ Some (y, rest)
  found x front rest h end = rw (leads.found front rest h) refl

  only : (z : Y) (ts rest : List Token) → behind after (done y) ts ≡ Some (z, rest) → (x : Unit {0}) × (front : List Token) × (y ≡ z) × (ts ≡ front ++ rest) × Is front
  only z ts rest e =
      let b = bind_some (after ts) (done y) (z, rest) e in
      let l = leads.only ts b.0 b.1 in
      let p = some_pair_parts y z b.0 rest b.2 in
      (tt, l.0, p.0, l.1 ∙ ap (λ (us : List Token). l.0 ++ us) p.1, l.2)
