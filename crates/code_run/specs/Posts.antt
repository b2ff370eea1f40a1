-- What a run makes, as its call answers it.
use Rattle.std.specs.Prelude.{List, [], ◌∷◌}
use Rattle.env_store.specs.Running.{Ran}
use Rattle.net_laws.specs.Posting.{Posted, a_message, a_request, posted_of}
use Rattle.code_run.specs.declared.made.Post.{Post}
use Rattle.code_run.specs.declared.made.Post.TheVariants as post
use Rattle.code_run.specs.declared.made.Run.{Run}

-- a post is one of what is posted at a site
abbrev pub posted : Post → Posted
posted (post.Message w) = a_message w.loc w.msg
posted (post.Request q) = a_request q

abbrev pub all_posted : List Post → List Posted
all_posted [] = []
all_posted (p ∷ ps) = posted p ∷ all_posted ps

-- and the other way round
abbrev pub post_of : Posted → Post
post_of (a_message l m) = post.Message (record { loc = l; msg = m })
post_of (a_request q) = post.Request q

abbrev pub posts_of : List Posted → List Post
posts_of [] = []
posts_of (p ∷ ps) = post_of p ∷ posts_of ps

-- what ran, with its messages and requests as they are posted
abbrev pub run_of : Ran → Run
run_of a = record {
  next = a.next;
  births = a.births;
  groups = a.groups;
  posts = posts_of (posted_of a.atoms);
  outs = a.outs;
}
