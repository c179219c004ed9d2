-- Links that begin and end where a program goes on.
use Rattle.tbr_program.proofs.Common.{◌≡◌, ◌+◌, ℕ, Option, None, Some, List, [], ◌∷◌, length, refl, sym, subst, Decoration, Renderer, finish, add_inline_text, after, Outcome, done, Stack}
use Rattle.tbr_program.proofs.Common.{Level, in_first, in_top, opened, with_link, open_links, link_number, shown_number, without_open_link, after_link_start, after_end_with, after_link_end}
use Rattle.tbr_program.proofs.Common.{Begun, IsLive}
use Rattle.tbr_decor.specs.Start as start
use Rattle.tbr_decor.specs.End as end_text
use Rattle.tbr_renderer.specs.Calls.{begin}
use Rattle.tbr_renderer.proofs.OutcomeParts.{done_first, done_before}
use Rattle.tbr_stack.specs.Links.{closed}
use Rattle.tbr_stack.proofs.Tops.{top_changed}
use Rattle.tbr_program.proofs.Levels.{Zipped, first_live, with_first_live}
use Rattle.tbr_program.proofs.LiveRenderers.{uncounted_live}

module _ {D A T : Type 0} where
  opened_live : (place : ℕ) (levels : List (Level (Renderer D A T))) (begun : List Begun) → Zipped levels begun → Zipped (in_first (opened place) levels) begun
  opened_live place [] begun live = live
  opened_live place (level ∷ levels) [] live = live
  opened_live place (level ∷ levels) (b ∷ begun) live = (live.0, live.1)

  closed_live : (levels : List (Level (Renderer D A T))) (begun : List Begun) → Zipped levels begun → Zipped (in_first closed levels) begun
  closed_live [] begun live = live
  closed_live (level ∷ levels) [] live = live
  closed_live (level ∷ levels) (b ∷ begun) live = (live.0, live.1)

module _ {D M : Type 0} (columns : ℕ → Option ℕ) (decoration : Decoration D M) where
  ends_live : (number : Option ℕ) (r s : Renderer D M (List M)) (begun : Begun) → IsLive r begun → after_end_with columns decoration number r ≡ done s → IsLive s begun
  ends_live None r s begun live does = uncounted_live columns decoration (finish end_text.link) r s begun (λ x. refl) (λ n. refl) live does
  ends_live (Some k) r s begun live does =
      let (m, ends, shows) = done_first (after columns decoration (finish end_text.link) r) (after columns decoration (add_inline_text (link_number k))) s does in
      let ended = uncounted_live columns decoration (finish end_text.link) r m begun (λ x. refl) (λ n. refl) live ends in
      uncounted_live columns decoration (add_inline_text (link_number k)) m s begun (λ x. refl) (λ n. refl) ended shows

  module _ (begun : Begun) (others : List Begun) (s t : Stack (Renderer D M (List M))) (live : Zipped s.levels (begun ∷ others)) where
    pub start_live : (target : List ℕ) → after_link_start columns decoration target s ≡ done t → Zipped t.levels (begun ∷ others)
    start_live target is =
        let h = top_changed (after columns decoration (begin (start.link target))) (with_link target s) t is in
        let linked = opened_live (length s.links + 1) s.levels (begun ∷ others) live in
        let top = first_live (with_link target s).levels h.0 begun others linked h.2 in
        let later = uncounted_live columns decoration (begin (start.link target)) h.0 h.1 begun (λ x. refl) (λ n. refl) top h.3 in
        subst (λ (x : Stack (Renderer D M (List M))). Zipped x.levels (begun ∷ others)) (sym h.4) (with_first_live (with_link target s).levels h.1 begun begun others linked later)

    pub end_live : after_link_end columns decoration s ≡ done t → Zipped t.levels (begun ∷ others)
    end_live h =
        let ending : Renderer D M (List M) → Outcome (Renderer D M (List M)) = λ r. after_end_with columns decoration (shown_number r (open_links s)) r in
        let (m, ended_is, is) = done_before without_open_link (in_top ending s) t h in
        let step = top_changed ending s m ended_is in
        let top = first_live s.levels step.0 begun others live step.2 in
        let later = ends_live _ step.0 step.1 begun top step.3 in
        let ended = subst (λ (x : Stack (Renderer D M (List M))). Zipped x.levels (begun ∷ others)) (sym step.4) (with_first_live s.levels step.1 begun begun others live later) in
        subst (λ (x : Stack (Renderer D M (List M))). Zipped x.levels (begun ∷ others)) (sym is) (closed_live m.levels (begun ∷ others) ended)
