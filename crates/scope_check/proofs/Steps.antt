-- One word takes its number.
use Rattle.std.proofs.Common.{◌≡◌, ℕ, ◌+◌, Bool, true, false, cond, eqb, ◌||◌, ◌&&◌, List, [], ◌∷◌}
use Rattle.std.proofs.Common.{◌++◌, Option, Some, None, length, refl, sym, ap, ◌∙◌, subst, arith}
use Rattle.std.proofs.Common.{append_assoc, length-append, is_some}
use Rattle.std.proofs.lemmas.Bool.Decides.{nat_tests}
use Rattle.std.specs.Str.{bytes_eq}
use Rattle.std.specs.List.{list_any}
use Rattle.std.specs.Cmp.Lexicographic.{bytes_decides}
use Rattle.scope_names.specs.declared.scope.Sort.{Sort}
use Rattle.scope_names.specs.declared.scope.Sort.TheVariants.{Channel, Location, Observed}
use Rattle.scope_names.specs.declared.scope.Sort.TheVariants.{Parameter}
use Rattle.scope_names.specs.Frames.{in_frame}
use Rattle.scope_check.specs.Blocks.{Defining, first_in}
use Rattle.scope_check.specs.Numbers.{Binder, binder, is_same, firsts_after}
use Rattle.scope_check.specs.Stands.{texts}
use Rattle.scope_check.specs.inside.Twin.{Table}
use Rattle.scope_check.specs.inside.Naming.{Named, numbered_as, spells_as, name_if, name_one}
use Rattle.scope_check.proofs.Counting.{Consecutive, Counts}
use Rattle.scope_check.proofs.Lists.{or_sort, first-append, or_entry, frame-append, any-append}
use Rattle.scope_check.proofs.Tables.{IsBinding, StandsFor, entered}

abbrev pub key : ℕ → List ℕ → Binder
key k text = record { scope = k; text = text }

-- what stands before of a scope are these names
abbrev pub Before : List Binder → ℕ → List Defining → Type 0
Before before k names =
    (text : List ℕ) → list_any (is_same (key k text)) before ≡ is_some (first_in text names)

one-any : (k : ℕ) (text : List ℕ) (d : Defining)
    → list_any (is_same (key k text)) (binder k d.0 ∷ []) ≡ is_some (first_in text (d ∷ []))
one-any k text d = by (eqb k k) (bytes_eq text d.0.text) (grind (arith, nat_tests))
  where
    by : (a b : Bool) → a ≡ true → ((a && b) || false) ≡ is_some (cond b (Some d.1) None)
    by true true e = refl
    by true false e = refl
    by false b e = absurd cc

or-some : (a b : Option Sort) → (is_some a || is_some b) ≡ is_some (or_sort a b)
or-some None b = refl
or-some (Some s) b = refl

pub before-more : (before : List Binder) (k : ℕ) (names : List Defining) (d : Defining)
    → Before before k names → Before (before ++ binder k d.0 ∷ []) k (names ++ d ∷ [])
before-more before k names d h text =
    any-append (is_same (key k text)) before (binder k d.0 ∷ [])
    ∙ (λ i. h text i || one-any k text d i)
    ∙ or-some (first_in text names) (first_in text (d ∷ []))
    ∙ ap is_some (sym (first-append text names (d ∷ [])))

binding-spells : (s : Sort) (spell : List (List ℕ)) (text : List ℕ) → IsBinding s
    → spells_as s spell text ≡ spell ++ text ∷ []
binding-spells (Channel m at) spell text h = refl
binding-spells Location spell text h = refl
binding-spells (Observed m i) spell text h = absurd h
binding-spells Parameter spell text h = refl

counts-more :
    (number : Binder → ℕ) (whole spell after : List (List ℕ)) (b : Binder) (bs : List Binder)
    → after ≡ spell ++ b.text ∷ [] → Counts number whole spell (b ∷ bs)
    → Counts number whole after bs
counts-more number whole spell after b bs e c =
    let long : length spell + 1 ≡ length after =
    omega (arith, ap length e, length-append spell (b.text ∷ [])) in (
      subst (λ n. Consecutive number n bs) long c.0.1,
      ap (λ l. l ++ texts bs) e ∙ append_assoc spell (b.text ∷ []) (texts bs) ∙ c.1,
    )

module _ (number : Binder → ℕ) (whole : List (List ℕ)) where
  some-entered : (k : ℕ) (text : List ℕ) (o : Option Sort)
      → is_some (entered number k text o) ≡ is_some o
  some-entered k text None = refl
  some-entered k text (Some s) = refl

  pub record NamedSo (before rest : List Binder) (k : ℕ) (names : List Defining) (d : Defining)
      (n : Named) : Type 0 where
    pub stands : StandsFor number n.table k (names ++ d ∷ [])
    pub counts : Counts number whole n.spell (firsts_after (before ++ binder k d.0 ∷ []) rest)

  -- A word takes the next number where it is the first of its spelling in its scope.
  pub name-step :
      (spell : List (List ℕ)) (table : Table) (before rest : List Binder) (k : ℕ)
      (names : List Defining) (d : Defining)
      → IsBinding d.1 → StandsFor number table k names → Before before k names
      → Counts number whole spell (firsts_after before (binder k d.0 ∷ rest))
      → NamedSo before rest k names d (name_one spell table d.0 d.1)
  name-step spell table before rest k names d binds stands seen counts =
      by (first_in d.0.text names) refl
    where
      old : (s : Sort) → first_in d.0.text names ≡ Some s → (text : List ℕ)
          → in_frame text table ≡ entered number k text (first_in text (names ++ d ∷ []))
      old s q text = stands text
          ∙ ap (entered number k text)
          (again (bytes_eq text d.0.text) refl ∙ sym (first-append text names (d ∷ [])))
        where
          again : (b : Bool) → bytes_eq text d.0.text ≡ b
              → first_in text names ≡ or_sort (first_in text names) (cond b (Some d.1) None)
          again true e =
              let same : text ≡ d.0.text = (bytes_decides text d.0.text).0 e in
              let is : first_in text names ≡ Some s = ap (λ x. first_in x names) same ∙ q in
              subst (λ o. o ≡ or_sort o (Some d.1)) (sym is) refl
          again false e = none (first_in text names)
            where
              none : (o : Option Sort) → o ≡ or_sort o None
              none None = refl
              none (Some s) = refl

      new : first_in d.0.text names ≡ None → number (binder k d.0) ≡ length spell → (text : List ℕ)
          → in_frame text
          (table ++ (d.0.text, record { sort = d.1; binder = numbered_as d.1 (length spell) }) ∷ [])
          ≡ entered number k text (first_in text (names ++ d ∷ []))
      new q num text = frame-append text table
          ((d.0.text, record { sort = d.1; binder = numbered_as d.1 (length spell) }) ∷ [])
          ∙ ap (λ o. or_entry o (cond (bytes_eq text d.0.text)
          (Some (record { sort = d.1; binder = numbered_as d.1 (length spell) })) None))
          (stands text) ∙ go (bytes_eq text d.0.text) refl
          ∙ ap (entered number k text) (sym (first-append text names (d ∷ [])))
        where
          go : (b : Bool) → bytes_eq text d.0.text ≡ b
              → or_entry (entered number k text (first_in text names))
              (cond b (Some (record { sort = d.1; binder = numbered_as d.1 (length spell) })) None)
              ≡ entered number k text (or_sort (first_in text names) (cond b (Some d.1) None))
          go true e =
              let same : text ≡ d.0.text = (bytes_decides text d.0.text).0 e in
              let is : first_in text names ≡ None = ap (λ x. first_in x names) same ∙ q in
              let n : length spell ≡ number (key k text) =
              sym num ∙ ap (λ x. number (key k x)) (sym same) in
              subst (λ (o : Option Sort). or_entry (entered number k text o)
              (Some (record { sort = d.1; binder = numbered_as d.1 (length spell) }))
              ≡ entered number k text (or_sort o (Some d.1))) (sym is)
              (λ i. Some (record { sort = d.1; binder = numbered_as d.1 (n i) }))
          go false e = none (first_in text names)
            where
              none : (o : Option Sort)
                  → or_entry (entered number k text o) None ≡ entered number k text (or_sort o None)
              none None = refl
              none (Some s) = refl

      by : (o : Option Sort) → first_in d.0.text names ≡ o
          → NamedSo before rest k names d (name_one spell table d.0 d.1)
      by (Some s) q =
          let there : is_some (in_frame d.0.text table) ≡ true =
          ap is_some (stands d.0.text) ∙ some-entered k d.0.text (first_in d.0.text names)
          ∙ ap is_some q in
          let any : list_any (is_same (binder k d.0)) before ≡ true =
          seen d.0.text ∙ ap is_some q in
          subst (λ b. NamedSo before rest k names d (name_if b spell table d.0 d.1)) (sym there)
          (record {
            stands = old s q;
            counts = subst (λ b.
                Counts number whole spell (cond b (firsts_after (before ++ binder k d.0 ∷ []) rest)
                (binder k d.0 ∷ firsts_after (before ++ binder k d.0 ∷ []) rest))) any counts;
          })
      by None q =
          let there : is_some (in_frame d.0.text table) ≡ false =
          ap is_some (stands d.0.text) ∙ some-entered k d.0.text (first_in d.0.text names)
          ∙ ap is_some q in
          let any : list_any (is_same (binder k d.0)) before ≡ false =
          seen d.0.text ∙ ap is_some q in
          let c = subst
          (λ b. Counts number whole spell (cond b (firsts_after (before ++ binder k d.0 ∷ []) rest)
          (binder k d.0 ∷ firsts_after (before ++ binder k d.0 ∷ []) rest))) any counts in
          subst (λ b. NamedSo before rest k names d (name_if b spell table d.0 d.1)) (sym there)
          (record {
            stands = new q c.0.0;
            counts = counts-more number whole spell (spells_as d.1 spell d.0.text) (binder k d.0)
                (firsts_after (before ++ binder k d.0 ∷ []) rest)
                (binding-spells d.1 spell d.0.text binds) c;
          })
