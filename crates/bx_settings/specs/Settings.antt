-- The settings that positional arguments of the daemon give.
use Rattle.std.specs.Prelude.{◌≡◌, ◌-◌, ◌^◌, ℕ, Bool, true, false, List, [], ◌∷◌, codes, Option, Some, None, option_map}
use Rattle.std.specs.Net.Grammar.{IsSocketText}
use Rattle.std.specs.declared.net.socket_addr.SocketAddr.{SocketAddr}
use Rattle.bx_advice.specs.Options.{options_in}
use Rattle.bx_advice.specs.declared.config.Config.{Config}
use Rattle.bx_advice.specs.declared.limit.Limit.TheVariants.{Events}
use Rattle.bx_advice.specs.declared.limit.TheConstants.{BODY_LIMIT, MAX_SHARDS}
use Rattle.bx_advice.specs.Configs.{new_config, with_maximum, with_options}
use Rattle.bx_cut.specs.declared.document.TheConstants.{MAX_MESSAGES}
use Rattle.bx_names.specs.Globs.{Glob}
use Rattle.bx_message.specs.Fields.{number_of}
use Rattle.bx_message.specs.Numbers.{◌>>=◌, count_in, limit_in, time_in}
use Rattle.bx_settings.specs.Seed.{seed_in}
use Rattle.bx_settings.specs.declared.settings.{LogFormat.LogFormat, LogLevel.LogLevel, Seed.Seed, Settings.Settings}
use Rattle.bx_settings.specs.declared.settings.LogFormat.TheVariants.{Text}
use Rattle.bx_settings.specs.declared.settings.LogLevel.TheVariants.{Info}
use Rattle.bx_settings.specs.declared.settings.Seed.TheVariants.{FromArguments}

-- Settings of the daemon, with addresses and names of files as bytes.
pub record PlainSettings : Type 0 where
  pub listen : List ℕ
  pub read_only_listen : Option (List ℕ)
  pub readers_publish : List Glob
  pub config : Config
  pub body : ℕ
  pub messages : ℕ
  pub callback_polling : Bool
  pub seed : Seed
  pub connections : ℕ
  pub metrics : Option (List ℕ)
  pub record_file : Option (List ℕ)
  pub record_answers : Bool
  pub record_bytes : ℕ
  pub until_eof : Bool
  pub log : LogFormat
  pub log_level : LogLevel

-- ---- Values as plain data

-- The settings with each text as its bytes.
abbrev pub plain : Settings → PlainSettings
plain settings = record {
  listen = settings.listen.now;
  read_only_listen = option_map (λ address. address.now) settings.read_only_listen;
  readers_publish = settings.readers_publish.items;
  config = settings.config;
  body = settings.body;
  messages = settings.messages;
  callback_polling = settings.callback_polling;
  seed = settings.seed;
  connections = settings.connections;
  metrics = option_map (λ address. address.now) settings.metrics;
  record_file = option_map (λ name. name.now) settings.record_file;
  record_answers = settings.record_answers;
  record_bytes = settings.record_bytes;
  until_eof = settings.until_eof;
  log = settings.log;
  log_level = settings.log_level;
}

-- ---- Arguments

-- The configuration that six positional arguments give, if all of them are valid. They are the
-- number of shards, `timeout`, `interval`, `max_interval`, the options and the limit of waiting
-- events. All other limits are the default ones.
abbrev pub config_in : List ℕ → List ℕ → List ℕ → List ℕ → List ℕ → List ℕ → Option Config
config_in shards timeout interval max_interval options limit = do
  s ← count_in MAX_SHARDS shards
  t ← time_in timeout
  i ← time_in interval
  m ← time_in max_interval
  c ← new_config s t i m
  o ← options_in options
  n ← limit_in Events limit
  with_maximum Events n (with_options o c)

-- The options and the limit of waiting events among the optional arguments. The options default to
-- `-`, and the limit to 1024. The result is `None` if there are more than two arguments.
abbrev pub optional_in : List (List ℕ) → Option (List ℕ × List ℕ)
optional_in [] = Some (codes "-", codes "1024")
optional_in (options ∷ []) = Some (options, codes "1024")
optional_in (options ∷ limit ∷ []) = Some (options, limit)
optional_in args = None

-- The settings that seven to nine positional arguments give, if all of them except the address are
-- valid. The address can be any text here; `Give` states whether it is valid.
abbrev pub settings_in : List (List ℕ) → Option PlainSettings
settings_in (listen ∷ shards ∷ timeout ∷ interval ∷ max_interval ∷ seed ∷ connections ∷ more) = do
  o ← optional_in more
  c ← config_in shards timeout interval max_interval o.0 o.1
  bytes ← seed_in seed
  n ← number_of connections
  Some (record { listen = listen; read_only_listen = None; readers_publish = []; config = c; body = BODY_LIMIT; messages = MAX_MESSAGES; callback_polling = true; seed = FromArguments bytes; connections = n; metrics = None; record_file = None; record_answers = false; record_bytes = 2 ^ 64 - 1; until_eof = false; log = Text; log_level = Info })
settings_in args = None

-- A text is an IP address and a port, such as `127.0.0.1:8087` or `[::1]:8087`.
abbrev pub IsAddress : List ℕ → Type 0
IsAddress text = (address : SocketAddr) × IsSocketText text address

-- The positional arguments give these settings: all of the arguments are valid.
pub record Give (args : List (List ℕ)) (settings : PlainSettings) : Type 0 where
  pub address : IsAddress settings.listen
  pub settings_are : settings_in args ≡ Some settings
