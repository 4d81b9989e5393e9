-- The first piece of a script, and the pieces after it.
use Rattle.std.proofs.Common.{◌≡◌, ℕ, suc, ◌+◌, ◌<◌, ◌≤◌, Bool, true, false, ◌&&◌, cond, List, [], ◌∷◌, length, take, drop, refl, ap, arith, ◌∙◌}
use Rattle.std.proofs.Math.Numerals.{one-add, add-one}
use Rattle.cq_sql_language.specs.Pieces.{PieceOf}
use Rattle.cq_sql_tokens.specs.declared.cutting.Context.{Context}
use Rattle.cq_sql_tokens.specs.declared.cutting.Context.TheVariants.{Outside}
use Rattle.cq_sql_tokens.specs.Cutting.{ends_piece, cut_end, cut_blank, is_blank_end, stays_blank, context_after, pieces_from, pieces_of, with_text}

-- a piece that a semicolon ended, and the last one
abbrev closed_piece : List ℕ → Bool → PieceOf
closed_piece text blank = record { text = text; closed = true; blank = blank }

abbrev last_piece : List ℕ → Bool → PieceOf
last_piece text blank = record { text = text; closed = false; blank = blank }

module _ (here : Context) (b : ℕ) (bs : List ℕ) where
  abbrev next : Context
  next = context_after here b

  abbrev stays : Bool
  stays = stays_blank here b

  -- a byte in front of a script whose first piece is closed
  cut_here : (ends : Bool) → (cut_end next bs < length bs → pieces_from next bs ≡ closed_piece (take (cut_end next bs) bs) (cut_blank next bs) ∷ pieces_of (drop (cut_end next bs + 1) bs))
      → cond ends 0 (1 + cut_end next bs) < suc (length bs)
      → cond ends (closed_piece [] (is_blank_end here) ∷ pieces_of bs) (with_text stays (b ∷ []) (pieces_from next bs)) ≡ closed_piece (take (cond ends 0 (1 + cut_end next bs)) (b ∷ bs)) (cond ends (is_blank_end here) (stays && cut_blank next bs)) ∷ pieces_of (drop (cond ends 0 (1 + cut_end next bs) + 1) (b ∷ bs))
  cut_here true cut less = refl
  cut_here false cut less = rw (one-add, cut (omega arith), add-one) (rw add-one refl)

  -- a byte in front of a script that is one piece
  last_here : (ends : Bool) → (length bs ≤ cut_end next bs → pieces_from next bs ≡ last_piece bs (cut_blank next bs) ∷ [])
      → suc (length bs) ≤ cond ends 0 (1 + cut_end next bs)
      → cond ends (closed_piece [] (is_blank_end here) ∷ pieces_of bs) (with_text stays (b ∷ []) (pieces_from next bs)) ≡ last_piece (b ∷ bs) (cond ends (is_blank_end here) (stays && cut_blank next bs)) ∷ []
  last_here true last more = absurd (omega arith)
  last_here false last more = rw (last (omega arith)) refl

-- where a semicolon ends the first piece, the others are those of what follows it
pub pieces_cut : (here : Context) (bs : List ℕ) → cut_end here bs < length bs → pieces_from here bs ≡ closed_piece (take (cut_end here bs) bs) (cut_blank here bs) ∷ pieces_of (drop (cut_end here bs + 1) bs)
pieces_cut here [] less = absurd (omega arith)
pieces_cut here (b ∷ bs) less = cut_here here b bs (ends_piece here b) (pieces_cut (context_after here b) bs) less

-- where none does, the script is one piece
pub pieces_end : (here : Context) (bs : List ℕ) → length bs ≤ cut_end here bs → pieces_from here bs ≡ last_piece bs (cut_blank here bs) ∷ []
pieces_end here [] more = refl
pieces_end here (b ∷ bs) more = last_here here b bs (ends_piece here b) (pieces_end (context_after here b) bs) more

module _ (text bytes : List ℕ) (n : ℕ) (blank : Bool) (same : bytes ≡ text) (n_is : n ≡ cut_end Outside bytes) (blank_is : blank ≡ cut_blank Outside bytes) where
  -- what the code cuts off is the first piece, and the rest has the others
  pub first_cut : (front back : List ℕ) → n < length text → front ≡ take n text → back ≡ drop (n + 1) text → pieces_of text ≡ closed_piece front blank ∷ pieces_of back
  first_cut front back less front_is back_is =
      let at : n ≡ cut_end Outside text = n_is ∙ ap (cut_end Outside) same in
      let told : blank ≡ cut_blank Outside text = blank_is ∙ ap (cut_blank Outside) same in
      let cut : cut_end Outside text < length text = omega (arith, at) in
      rw (front_is, back_is, at, told) (pieces_cut Outside text cut)

  -- a text with no cut is the last piece
  pub no_cut : length text ≤ n → pieces_of text ≡ last_piece text blank ∷ []
  no_cut more =
      let at : n ≡ cut_end Outside text = n_is ∙ ap (cut_end Outside) same in
      let told : blank ≡ cut_blank Outside text = blank_is ∙ ap (cut_blank Outside) same in
      rw told (pieces_end Outside text (omega (arith, at)))
