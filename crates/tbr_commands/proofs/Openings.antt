-- What the code finds of a first command is what is read.
use Rattle.std.proofs.Common.{◌≡◌, ◌≢◌, ℕ, List, ◌∷◌, ◌++◌, Option, Some, None, fold, refl, sym, ap, ◌∙◌}
use Rattle.std.specs.Option.{option_map, option_and_then}
use Rattle.tbr_renderer.specs.declared.RenderOptions.{RenderOptions}
use Rattle.tbr_commands.specs.declared.options.Setting.{Setting}
use Rattle.tbr_commands.specs.Options.{with_setting}
use Rattle.tbr_commands.specs.Read.{after_word, setting_read, settings_read}
use Rattle.tbr_commands.proofs.Reading.{after_is}

-- a text that doesn't begin with a word
pub no_word : (word bs : List ℕ) → ((rest : List ℕ) → bs ≢ word ++ rest) → None ≡ after_word word bs
no_word word bs none = go (after_word word bs) refl
  where
    go : (o : Option (List ℕ)) → after_word word bs ≡ o → None ≡ o
    go None e = refl
    go (Some rest) e = absurd (none rest (after_is word bs rest e))

-- one setting more
pub one_more : (words rest : List (List ℕ)) (word : List ℕ) (options : RenderOptions) (setting : Setting) → words ≡ word ∷ rest → Some setting ≡ setting_read word →
    option_map (λ all. fold with_setting (with_setting options setting) all) (settings_read rest) ≡ option_map (λ all. fold with_setting options all) (settings_read words)
one_more words rest word options setting is reads =
    go (settings_read rest)
    ∙ ap (λ o. option_map (λ all. fold with_setting options all) (option_and_then (λ s. option_map (λ others. s ∷ others) (settings_read rest)) o)) reads
    ∙ ap (λ ws. option_map (λ all. fold with_setting options all) (settings_read ws)) (sym is)
  where
    go : (o : Option (List Setting)) → option_map (λ all. fold with_setting (with_setting options setting) all) o ≡
        option_map (λ all. fold with_setting options all) (option_map (λ others. setting ∷ others) o)
    go None = refl
    go (Some all) = refl
