use Rattle.text_block_renderer.proofs.Headline.{headline}
use Rattle.script_laws.proofs.LedRenderers.{started_led, line_led, text_led, script_led}
use Rattle.script_laws.proofs.ShownTexts.{led_shows, led_stands, led_undrawn, led_writes}
use Rattle.script_laws.proofs.laws.the_renderers_of_a_script_are_led_to.Goals as goal

pub returns : goal.returns
returns g c = record {
  first = started_led;
  line = line_led;
  text = text_led;
  script = script_led;
  headline = λ columns decoration r led. headline columns decoration led.acts led.first r led.sound led.leads;
  shows = led_shows;
  stands = led_stands;
  undrawn = led_undrawn;
  written = led_writes;
}
