-- What a run answers, as the laws name it.
use Rattle.std.proofs.Common.{◌≡◌, List, [], Result, Ok, Err, refl, ap, ◌∙◌, subst}
use Rattle.std.specs.Prelude.{IfOk}
use Rattle.chem_model.specs.declared.name.Loc.{Loc}
use Rattle.chem_model.specs.declared.event.Out.{Out}
use Rattle.chem_model.specs.declared.numbered.Made.{Made}
use Rattle.wire_packet.specs.declared.packet.Flight.{Flight}
use Rattle.env_store.specs.CodeParts.{CodeParts}
use Rattle.env_store.specs.Running.{Ran, atom_ran}
use Rattle.loc_tree.specs.Tree.{Tree}
use Rattle.net_laws.specs.Site.{Site}
use Rattle.net_laws.specs.Parcels.{all_told}
use Rattle.net_laws.specs.ByCode.{told_by, run_here}
use Rattle.net_laws.specs.Meeting.{sent_here}
use Rattle.net_laws.specs.Posting.{Posted, Outcome, pour_here, posted_of}
use Rattle.code_run.specs.declared.made.Run.{Run}
use Rattle.code_run.specs.Posts.{all_posted, posts_of, run_of}
use Rattle.code_run.proofs.Runs.{posted_back}
use Rattle.site_solution.specs.declared.effects.Effects.{Effects}
use Rattle.site_solution.specs.Answers.{AreFlights, Answers}
use Rattle.site_solution.specs.inside.Leave.{IsLeft}
use Rattle.site_shelves.specs.Held.{taken_at}
use Rattle.site_shelves.proofs.Fronts.{taken-nothing}

pub ok-more : {A E : Type 0} (r : Result A E) (P Q : A → Type 0) → ((a : A) → P a → Q a) → IfOk r P
    → IfOk r Q
ok-more (Ok a) P Q f h = f a h
ok-more (Err e) P Q f h = tt

pub ok-both : {A E : Type 0} (r : Result A E) (P Q R : A → Type 0)
    → ((a : A) → P a → Q a → R a) → IfOk r P → IfOk r Q → IfOk r R
ok-both (Ok a) P Q R f h g = f a h g
ok-both (Err e) P Q R f h g = tt

-- flights and effects of one outcome
pub left-answers :
    (o : Outcome) (new : Site) (fs : List Flight) (outs : List Out) (births : List Loc)
    → IsLeft o new fs
    → Answers o outs births new (record { sends = fs; outs = outs; births = births })
left-answers o new fs outs births left =
    record { site = left.site; sends = left.sends; outs = refl; births = refl }

pub run-answers : (c : CodeParts) (t : Tree) (s new : Site) (a : Ran) (r : Run) (e : Effects)
    → r ≡ run_of a
    → Answers (pour_here t r.next r.births (all_told (told_by c) r.groups) (all_posted r.posts) s)
    r.outs r.births new e → Answers (run_here c t a s) a.outs a.births new e
run-answers c t s new a r e is h =
    let at : Answers (pour_here t a.next a.births (all_told (told_by c) a.groups)
    (all_posted (posts_of (posted_of a.atoms))) s) a.outs a.births new e = subst (λ (x : Run).
    Answers (pour_here t x.next x.births (all_told (told_by c) x.groups) (all_posted x.posts) s)
    x.outs x.births new e) is h in
    subst (λ (ps : List Posted). Answers
    (pour_here t a.next a.births (all_told (told_by c) a.groups) ps s) a.outs a.births new e)
    (posted_back (posted_of a.atoms)) at

pub sent-answers : (t : Tree) (s new : Site) (a : Made) (r : Run) (e : Effects)
    → r ≡ run_of (atom_ran a)
    → Answers (pour_here t r.next r.births [] (all_posted r.posts) (taken_at 0 [] s))
    r.outs r.births new e → Answers (sent_here t a s) a.outs [] new e
sent-answers t s new a r e is h =
    let whole : Answers (pour_here t r.next r.births [] (all_posted r.posts) s) r.outs r.births new
    e = subst (λ (x : Site).
    Answers (pour_here t r.next r.births [] (all_posted r.posts) x) r.outs r.births new e)
    (taken-nothing 0 s) h in
    let o : pour_here t r.next r.births [] (all_posted r.posts) s ≡ sent_here t a s =
    ap (λ (x : Run). pour_here t x.next x.births [] (all_posted x.posts) s) is
    ∙ ap (λ ps. pour_here t a.next [] [] ps s) (posted_back (posted_of a.atoms)) in
    record {
      site = whole.site ∙ ap (λ (x : Outcome). x.site) o;
      sends = subst (λ (x : Outcome). AreFlights x.sends e.sends) o whole.sends;
      outs = whole.outs ∙ ap (λ (x : Run). x.outs) is;
      births = whole.births ∙ ap (λ (x : Run). x.births) is;
    }

pub nothing-taken : (c : CodeParts) (t : Tree) (s new : Site) (a : Ran) (e : Effects)
    → Answers (run_here c t a (taken_at 0 [] s)) a.outs a.births new e
    → Answers (run_here c t a s) a.outs a.births new e
nothing-taken c t s new a e h =
    subst (λ (x : Site). Answers (run_here c t a x) a.outs a.births new e) (taken-nothing 0 s) h
