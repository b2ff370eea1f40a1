-- What is made, one after another.
use Rattle.std.proofs.Common.{◌≡◌, ℕ, zero, ◌+◌, ◌<◌, ◌≤◌, suc, List, [], ◌∷◌, ◌++◌, length, get_or}
use Rattle.std.proofs.Common.{drop, drop-cons, add-one, refl, sym, ap, ◌∙◌, subst, append_assoc}
use Rattle.std.proofs.Common.{arith}
use Rattle.chem_model.specs.declared.name.Loc.{Loc}
use Rattle.chem_model.specs.declared.name.Name.{Name}
use Rattle.chem_model.specs.declared.name.Ref.TheVariants.{Known}
use Rattle.chem_model.specs.declared.numbered.NumberedAtom.{NumberedAtom}
use Rattle.chem_model.specs.Reduction.{all_known}
use Rattle.chem_model.specs.Fill.{fill_refs}
use Rattle.chem_model.specs.Pour.{message_made}
use Rattle.chem_laws.proofs.Lists.{append_nil}
use Rattle.env_store.specs.Running.{Ran, nothing_ran, then_ran, atom_ran}
use Rattle.net_laws.specs.Posting.{Posted, a_message, a_request, posted_term, posted_of}
use Rattle.code_run.specs.declared.made.Run.{Run}
use Rattle.code_run.specs.Posts.{post_of, posts_of, all_posted, run_of}
use Rattle.code_run.specs.inside.Steps.{Adds}

-- what is posted is what the site is to post
pub posted_back : (ps : List Posted) → all_posted (posts_of ps) ≡ ps
posted_back [] = refl
posted_back (a_message l m ∷ ps) = ap (λ qs. a_message l m ∷ qs) (posted_back ps)
posted_back (a_request q ∷ ps) = ap (λ qs. a_request q ∷ qs) (posted_back ps)

pub posts_append : (xs ys : List NumberedAtom)
    → posts_of (posted_of (xs ++ ys)) ≡ posts_of (posted_of xs) ++ posts_of (posted_of ys)
posts_append [] ys = refl
posts_append (x ∷ xs) ys =
    ap (λ ps. post_of (posted_term x.id x.loc x.term) ∷ ps) (posts_append xs ys)

-- one run after another
pub adds_then : (m0 m1 m2 : Run) (a b : Ran) → Adds m0 m1 a → Adds m1 m2 b
    → Adds m0 m2 (then_ran a b)
adds_then m0 m1 m2 a b h g = (
  g.0,
  g.1 ∙ ap (λ xs. xs ++ b.births) h.1 ∙ append_assoc m0.births a.births b.births,
  g.2 ∙ ap (λ xs. xs ++ b.groups) h.2 ∙ append_assoc m0.groups a.groups b.groups,
  g.3 ∙ ap (λ xs. xs ++ posts_of (posted_of b.atoms)) h.3
      ∙ append_assoc m0.posts (posts_of (posted_of a.atoms)) (posts_of (posted_of b.atoms))
      ∙ ap (λ xs. m0.posts ++ xs) (sym (posts_append a.atoms b.atoms)),
  g.4 ∙ ap (λ xs. xs ++ b.outs) h.4 ∙ append_assoc m0.outs a.outs b.outs,
)

pub adds_nothing : (m : Run) → Adds m m (nothing_ran m.next)
adds_nothing m = (
  refl,
  sym (append_nil m.births),
  sym (append_nil m.groups),
  sym (append_nil m.posts),
  sym (append_nil m.outs),
)

-- what is added to a run that made nothing is the whole run
pub from_nothing : (k : ℕ) (m : Run) (a : Ran) → Adds (run_of (nothing_ran k)) m a → m ≡ run_of a
from_nothing k m a h =
    λ i. record { next = h.0 i; births = h.1 i; groups = h.2 i; posts = h.3 i; outs = h.4 i }

pub body_run : (M : ℕ → Ran) (k : ℕ) (start new : Run) → start ≡ run_of (nothing_ran k)
    → Adds start new (M start.next) → new ≡ run_of (M k)
body_run M k start new e h =
    from_nothing k new (M k) (subst (λ (q : Run). Adds q new (M q.next)) e h)

-- a message that is poured has its names already
pub filled : (args : List Name) → fill_refs [] (all_known args) ≡ all_known args
filled [] = refl
filled (n ∷ ns) = ap (λ rs. Known n ∷ rs) (filled ns)

pub message_run :
    (seen : List ℕ) (s : ℕ) (l : Loc) (on : Name) (args : List Name) (k : ℕ) (start new : Run)
    → start ≡ run_of (nothing_ran k)
    → Adds start new (atom_ran (message_made seen s l start.next (Known on) (all_known args)))
    → new ≡ run_of (atom_ran (message_made seen s l k (Known on) (fill_refs [] (all_known args))))
message_run seen s l on args k start new e h =
    let at : Adds (run_of (nothing_ran k)) new
    (atom_ran (message_made seen s l k (Known on) (all_known args))) = subst
    (λ (m : Run). Adds m new (atom_ran (message_made seen s l m.next (Known on) (all_known args))))
    e h in
    from_nothing k new (atom_ran (message_made seen s l k (Known on) (all_known args))) at
    ∙ ap (λ vs. run_of (atom_ran (message_made seen s l k (Known on) vs))) (sym (filled args))

-- the rest of a list begins with the member at its place
pub drop_at : {X : Type 0} (xs : List X) (i : ℕ) (x : X) → i < length xs → x ≡ get_or xs i x
    → drop i xs ≡ x ∷ drop (i + 1) xs
drop_at xs i x h e = rw (add-one) (drop-cons xs i x h ∙ ap (λ y. y ∷ drop (suc i) xs) (sym e))

pub drop_number : (xs : List ℕ) (i : ℕ) → i < length xs
    → drop i xs ≡ get_or xs i 0 ∷ drop (i + 1) xs
drop_number xs i h = rw (add-one) (drop-cons xs i 0 h)

pub drop_past : {X : Type 0} (xs : List X) (i : ℕ) → length xs ≤ i → drop i xs ≡ []
drop_past [] zero h = refl
drop_past [] (suc i) h = refl
drop_past (x ∷ xs) zero h = absurd (omega arith)
drop_past (x ∷ xs) (suc i) h = drop_past xs i (omega arith)
