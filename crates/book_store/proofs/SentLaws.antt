-- Where more candidates are kept, all that is kept stays right.
use Rattle.std.proofs.Common.{◌≡◌, refl, true}
use Rattle.chem_model.specs.declared.name.Loc.{Loc}
use Rattle.chem_model.specs.declared.numbered.Numbered.{Numbered}
use Rattle.chem_model.specs.Numbered.{standing}
use Rattle.chem_model.specs.Apply.{falls}
use Rattle.book_store.specs.Candidates.{KeepsCandidates, AreAtSite}
use Rattle.book_store.specs.Watched.{KeepsWaiting, no_number}
use Rattle.book_store.specs.Asked.{AreCalled, KeepsAsking}
use Rattle.book_store.specs.Stored.{IsStored, IsSent}
use Rattle.book_store.specs.declared.candidates.Candidates.{Candidates}
use Rattle.book_store.specs.declared.waiting.Waiting.{Waiting}
use Rattle.book_store.specs.declared.asking.Asking.{Asking}
use Rattle.book_store.specs.declared.store.Store.{Store}
use Rattle.book_store.proofs.Lasting.{watched_more, asked_more, called_more}

pub more_rules : (n : Numbered) (s : Store) (ready : Candidates)
    → KeepsCandidates s.waiting.ready ready → IsStored n s
    → IsStored n (record s { waiting = record s.waiting { ready = ready } })
more_rules n s ready keeps h =
    let new : Waiting = record s.waiting { ready = ready } in
    let kept : KeepsWaiting s.waiting new =
    record { noted = refl; filed = λ k at. at; ready = keeps } in
    record {
      watched = watched_more no_number (standing n.places) s.older.keys.keys s.waiting new n.rules
          kept h.watched;
      asked = h.asked;
    }

pub more_asking : (n : Numbered) (s : Store) (asking : Asking) → KeepsAsking s.asking asking
    → IsStored n s → IsStored n (record s { asking = asking })
more_asking n s asking keeps h = record {
  watched = h.watched;
  asked =
      asked_more n.version (standing n.places) s.asking asking s.older.table keeps h.asked;
}

keeps_ready : (s : Asking) (ready : Candidates) → KeepsCandidates s.ready ready
    → KeepsAsking s (record s { ready = ready })
keeps_ready s ready keeps = record { awaits = λ k at. at; ready = keeps }

pub more_requests : (n : Numbered) (s : Store) (ready : Candidates)
    → KeepsCandidates s.asking.ready ready → IsStored n s
    → IsStored n (record s { asking = record s.asking { ready = ready } })
more_requests n s ready keeps h =
    more_asking n s (record s.asking { ready = ready }) (keeps_ready s.asking ready keeps) h

pub is_sent : (n : Numbered) (s : Store) (l b : Loc) (first second : Candidates)
    → (falls n l b ≡ true → AreCalled n.version (standing n.places) s.asking l s.older.table)
    → AreAtSite first l b.site → AreAtSite second l b.site → KeepsCandidates s.asking.ready second
    → IsSent n (record s {
      waiting = record s.waiting { ready = first };
      asking = record s.asking { ready = second };
    }) l b
is_sent n s l b first second called rules requests keeps = record {
  rules = rules;
  requests = requests;
  called = λ e. called_more n.version (standing n.places) s.asking
      (record s.asking { ready = second }) l s.older.table (keeps_ready s.asking second keeps)
      (called e);
}
