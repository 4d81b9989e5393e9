-- COPY to the table that was found, and from the file that its source gave.
use Rattle.std.proofs.Common.{◌≡◌, ℕ, true, false, List, [], ◌∷◌, ◌++◌, Option, Some, None, Result, Ok, Err, refl, sym, ap, ap₂, subst, ◌∙◌, if◌then◌else◌, Vec}
use Rattle.std.specs.Global.{Global}
use Rattle.std.specs.Prelude.{length, nat_lt, is_none, option_map}
use Rattle.cq_values.specs.Value.{Row}
use Rattle.cq_values.specs.declared.column.ColumnDef.{ColumnDef}
use Rattle.cq_model.specs.Sizes.{text_limit}
use Rattle.cq_sql_language.specs.declared.statement.Statement.TheVariants.{Copy}
use Rattle.cq_model_state.specs.State.{TableOf, ViewOf, State, table_named}
use Rattle.cq_binder_rules.specs.declared.bound.Bound.TheVariants as commands
use Rattle.cq_binder_rules.specs.declared.fault.Fault.{Fault}
use Rattle.cq_binder_rules.specs.declared.fault.Fault.TheVariants as faults
use Rattle.cq_binder_rules.specs.declared.sources.SourceFault.{SourceFault}
use Rattle.cq_binder_rules.specs.declared.sources.SourceFault.TheVariants as gave
use Rattle.cq_binder_rules.specs.Bound.{rows_read}
use Rattle.cq_binder_rules.specs.Checks.{first_fault, fault_if, MayRefuse}
use Rattle.cq_binder_rules.specs.Records.{Files, file_rows}
use Rattle.cq_binder_rules.specs.Refusal.{name_checks, reads_source, written_table}
use Rattle.cq_binder_rules.specs.Typing.{fault_in}
use Rattle.cq_binder_rules.specs.Sources.{AreTold, Reads, fault_of}
use Rattle.cq_binder_queries.specs.Catalog.{alone, names_view}
use Rattle.cq_binder_queries.proofs.Faults.{none_append, refused_back, refused_front, refused_with}
use Rattle.cq_csvio_read.specs.Reading.{ReadsRows}
use Rattle.cq_binder.specs.Binding.{records_walk}
use Rattle.cq_binder.specs.Sourced.{IsBound, over, failed}

-- some files that a source may hold
pub some_files : (told : Option Files) → (files : Files) × AreTold told files
some_files None = (λ (name : List ℕ). [], tt)
some_files (Some files) = (files, refl)

-- a COPY to a table that is there, from a file whose name is too long, reads nothing
pub long_name_unread : (name file : List ℕ) (tables : List TableOf) (views : List ViewOf) (t : TableOf) → table_named name tables ≡ Some t
    → nat_lt text_limit (length file) ≡ true → reads_source (alone tables views) (Copy name file) ≡ false
long_name_unread name file tables views t found long = rw (found, long) refl

module _ (told : Option Files) (name file : List ℕ) (tables : List TableOf) (views : List ViewOf) (before : ℕ) where
  abbrev here : State
  here = alone tables views

  -- no table has the name
  pub unwritten_bound : (f : Fault) → table_named name tables ≡ None → f ≡ (if names_view name views then faults.ViewNotWritten else faults.UnknownTable) → IsBound told here (Copy name file) before before (Err f)
  unwritten_bound f none is =
      let any = some_files told in
      over any.0 any.1 (refused_with (first_fault (name_checks file (written_table name here) ++ records_walk (any.0 file) (written_table name here))) f (rw none (ap Some (sym is)))) refl

  module _ (t : TableOf) (found : table_named name tables ≡ Some t) where
    abbrev long : List (Option Fault)
    long = fault_if (nat_lt text_limit (length file)) faults.TextTooLong ∷ []

    -- the walk where the table is found
    walked : (bytes : List ℕ) → first_fault (name_checks file (written_table name here) ++ records_walk bytes (written_table name here)) ≡ first_fault (long ++ records_walk bytes (Ok t))
    walked bytes = rw found refl

    -- the file's name is too long
    pub named_too_long : (f : Fault) → MayRefuse (first_fault long) f → IsBound told here (Copy name file) before before (Err f)
    named_too_long f m =
        let any = some_files told in
        over any.0 any.1 (subst (λ (o : Option Fault). MayRefuse o f) (sym (walked (any.0 file))) (refused_front long (records_walk (any.0 file) (Ok t)) f m)) refl

    module _ (short : first_fault long ≡ None) where
      -- so the source is read
      reads : reads_source here (Copy name file) ≡ true
      reads = rw found (ap is_none short)

      -- the source gives nothing
      gave_none : (after : ℕ) (given : SourceFault) (f : Fault) → Reads told file before after (Err given) → f ≡ fault_of given → IsBound told here (Copy name file) before after (Err f)
      gave_none after gave.Failed f h is = failed reads (ap Err is) h.2
      gave_none after gave.Memory f h is =
          over h.0 h.1 (refused_for_memory f is) h.2
        where
          refused_for_memory : (g : Fault) → g ≡ faults.Memory → MayRefuse (first_fault (name_checks file (written_table name here) ++ records_walk (h.0 file) (written_table name here))) g
          refused_for_memory g e = subst (λ (k : Fault). MayRefuse (first_fault (name_checks file (written_table name here) ++ records_walk (h.0 file) (written_table name here))) k) (sym e) tt

      pub gave_nothing : (asked : List ℕ) (after : ℕ) (given : SourceFault) (f : Fault) → asked ≡ file → Reads told asked before after (Err given) → f ≡ fault_of given → IsBound told here (Copy name file) before after (Err f)
      gave_nothing asked after given f e h is = gave_none after given f (subst (λ (n : List ℕ). Reads told n before after (Err given)) e h) is

      module _ (asked : List ℕ) (asks : asked ≡ file) (after : ℕ) (bytes : Vec ℕ Global) (given : Reads told asked before after (Ok bytes)) (columns : List ColumnDef) (same : columns ≡ t.columns) (text : List ℕ) (is_text : text ≡ bytes.items) where
        h : Reads told file before after (Ok bytes)
        h = subst (λ (n : List ℕ). Reads told n before after (Ok bytes)) asks given

        -- they are the rows of the file
        same_rows : file_rows t.columns (h.0 file) ≡ file_rows columns bytes.items
        same_rows = ap₂ (λ (cs : List ColumnDef) (bs : List ℕ). file_rows cs bs) (sym same) (sym h.2.0)

        -- what its records are refused for
        records_refused : (f : Fault) → ReadsRows columns bytes.items (Err f) → MayRefuse (first_fault (records_walk (h.0 file) (Ok t))) f
        records_refused faults.Memory m = tt
        records_refused f m = of_rows f m
          where
            of_rows : (g : Fault) → file_rows columns bytes.items ≡ Err g → MayRefuse (first_fault (records_walk (h.0 file) (Ok t))) g
            of_rows g e = refused_with (first_fault (records_walk (h.0 file) (Ok t))) g (ap (λ (r : Result (List Row) Fault). first_fault (fault_in r ∷ [])) (same_rows ∙ e))

        pub bad_file : (f : Fault) → ReadsRows columns text (Err f) → IsBound told here (Copy name file) before after (Err f)
        bad_file f read =
            let m = subst (λ (b : List ℕ). ReadsRows columns b (Err f)) is_text read in
            over h.0 h.1 (subst (λ (o : Option Fault). MayRefuse o f) (sym (walked (h.0 file))) (refused_back long (records_walk (h.0 file) (Ok t)) f short (records_refused f m))) h.2.1

        -- and the rows that they make
        pub copied : (number : ℕ) (rows : List Row) → number ≡ t.number → ReadsRows columns text (Ok rows) → IsBound told here (Copy name file) before after (Ok (commands.Insert number rows))
        copied number rows is m =
            let read : file_rows t.columns (h.0 file) ≡ Ok rows = same_rows ∙ ap (λ (bs : List ℕ). file_rows columns bs) (sym is_text) ∙ m in
            let free : first_fault (long ++ records_walk (h.0 file) (Ok t)) ≡ None = none_append long (records_walk (h.0 file) (Ok t)) short (rw read refl) in
            let made : rows_read t (h.0 file) ≡ rows = rw read refl in
            let command : option_map (λ u. commands.Insert u.number (rows_read u (h.0 file))) (table_named name tables) ≡ Some (commands.Insert number rows) =
            ap (option_map (λ u. commands.Insert u.number (rows_read u (h.0 file)))) found ∙ ap₂ (λ (n : ℕ) (rs : List Row). Some (commands.Insert n rs)) (sym is) made in
            over h.0 h.1 (walked (h.0 file) ∙ free, command) h.2.1
