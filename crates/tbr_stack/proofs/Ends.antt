-- The end of a link.
use Rattle.std.proofs.Common.{◌≡◌, ℕ, List, Option, None, ap, ◌∙◌}
use Rattle.tbr_decor.specs.Decoration.{Decoration}
use Rattle.tbr_decor.specs.End as end
use Rattle.tbr_tagged.proofs.Outcomes.{live_done}
use Rattle.tbr_renderer.specs.Calls.{finish, made, Does}
use Rattle.tbr_renderer.specs.Renderer.{Renderer, kept_of}
use Rattle.tbr_renderer.proofs.SettingsStay.{Steady, closed_alike}

-- neither the kept refusal, which there isn't, nor what later calls ask for is changed
pub record Steadily {D A T : Type 0} (r q : Renderer D A T) : Type 0 where
  pub live : r.failure ≡ None
  pub failure : q.failure ≡ None
  pub kept : kept_of q ≡ kept_of r

pub ended : {D A : Type 0} (columns : ℕ → Option ℕ) (decoration : Decoration D A) (r q : Renderer D A (List A)) → Does columns decoration (finish end.link) r q → Steadily r q
ended {D} {A} columns decoration r q h =
    let (live, made_is) = live_done r.failure (made columns decoration (finish end.link) r) q h in
    let same = closed_alike columns decoration end.link r q made_is in
    record {
      live = live;
      failure = ap (λ (x : Steady D A). x.failure) same ∙ live;
      kept = ap (λ (x : Steady D A). x.settings.kept) same;
    }
